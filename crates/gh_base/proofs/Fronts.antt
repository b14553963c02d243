-- The fronts of a text that can be continued to a decimal.
use Rattle.std.proofs.Common.{◌≡◌, ◌∙◌, ℕ, zero, suc, ◌+◌, ◌-◌, ◌*◌, ◌<◌, ◌≤◌, ◌⊎◌, inl, inr, List, [], ◌∷◌, ◌++◌, length, take, drop, get_or, Option, Some, None, Bool, true, false, cond, ltb, leb, eqb, refl, ap, sym, subst, arith, length-append, length-drop, length-take}
use Rattle.std.specs.Prelude.{IsSome, position, nat_le, ◌&&◌, ◌==◌, if◌then◌else◌}
use Rattle.std.specs.List.{position_or_len}
use Rattle.std.specs.Char.{is_ascii_digit}
use Rattle.std.proofs.lemmas.Bool.Decides.{nat_tests}
use Rattle.std.proofs.lemmas.List.{get_or-take, get_or-drop, get_or_append_left}
use Rattle.std.proofs.Math.Seq.{get_or-append_seam}
use Rattle.std.proofs.lemmas.List.Sums.{position_or_len_is, passes_at_first}
use Rattle.std.proofs.lemmas.Option.{cond_some}
use Rattle.gh_base.specs.Decimals.{digits_from, natural_of, is_minus, magnitude, split_at_dot, decimal_of, CanContinue, IsLongestFront, ◌>>=◌}

abbrev IsDigit : ℕ → Type 0
IsDigit b = is_ascii_digit b ≡ true

-- bytes that are all digits
abbrev AreDigits : List ℕ → Type 0
AreDigits xs = (i : ℕ) → i < length xs → IsDigit (get_or xs i 0)

are_digits : (n : ℕ) (xs : List ℕ) → IsSome (digits_from n xs) → AreDigits xs
are_digits n [] h i lt = absurd (omega arith)
are_digits n (x ∷ xs) h i lt = by (λ s j l. are_digits (10 * n + (x - 48)) xs s j l) (is_ascii_digit x) refl h i lt
  where
    by : (IsSome (digits_from (10 * n + (x - 48)) xs) → AreDigits xs) → (b : Bool) → is_ascii_digit x ≡ b → IsSome (if b then digits_from (10 * n + (x - 48)) xs else None) → AreDigits (x ∷ xs)
    by rest true e s zero l = e
    by rest true e s (suc j) l = rest s j (omega arith)
    by rest false e s j l = cc

digits_spell : (n : ℕ) (xs : List ℕ) → AreDigits xs → IsSome (digits_from n xs)
digits_spell n [] h = refl
digits_spell n (x ∷ xs) h =
    rw (h 0 (omega arith)) (digits_spell (10 * n + (x - 48)) xs (λ i l. h (suc i) (omega arith)))

record IsNatural (limit : ℕ) (xs : List ℕ) : Type 0 where
  some : 0 < length xs
  most : length xs ≤ limit
  digits : AreDigits xs

natural_is : (most : ℕ) (xs : List ℕ) → IsSome (natural_of most xs) → IsNatural most xs
unfolding natural_of
natural_is most xs h = by (ltb 0 (length xs)) refl (leb (length xs) most) refl h
  where
    by : (a : Bool) → ltb 0 (length xs) ≡ a → (b : Bool) → nat_le (length xs) most ≡ b → IsSome (if a && b then digits_from 0 xs else None) → IsNatural most xs
    by true e true f s = record { some = grind (arith, nat_tests); most = grind (arith, nat_tests); digits = are_digits 0 xs s }
    by true e false f s = cc
    by false e b f s = cc

is_natural : (most : ℕ) (xs : List ℕ) → IsNatural most xs → IsSome (natural_of most xs)
unfolding natural_of
is_natural most xs h =
    let some : ltb 0 (length xs) ≡ true = let l = h.some in grind (arith, nat_tests) in
    let short : nat_le (length xs) most ≡ true = let l = h.most in grind (arith, nat_tests) in
    rw (some, short) (digits_spell 0 xs h.digits)

-- what stands behind a dot
record IsFraction (places : ℕ) (xs : List ℕ) (dot : ℕ) : Type 0 where
  within : dot < length xs
  is_dot : get_or xs dot 0 ≡ 46
  some : dot + 1 < length xs
  most : length xs ≤ dot + 1 + places
  digits : (i : ℕ) → dot < i → i < length xs → IsDigit (get_or xs i 0)

-- digits from a start to a dot or the end
record HasParts (places : ℕ) (xs : List ℕ) (start dot : ℕ) : Type 0 where
  some : start < dot
  most : dot ≤ start + 9
  within : dot ≤ length xs
  digits : (i : ℕ) → start ≤ i → i < dot → IsDigit (get_or xs i 0)
  tail : (dot ≡ length xs) ⊎ IsFraction places xs dot

bind_some : {A B : Type 0} (o : Option A) (f : A → Option B) → IsSome (o >>= f) → IsSome o
bind_some None f h = h
bind_some (Some x) f h = refl

bind_some_more : {A B : Type 0} (o : Option A) (f : A → Option B) → IsSome (o >>= f) → (x : A) × (o ≡ Some x) × IsSome (f x)
bind_some_more None f h = cc
bind_some_more (Some x) f h = (x, refl, h)

some_bind : {A B : Type 0} (o : Option A) (f : A → Option B) → IsSome o → ((x : A) → IsSome (f x)) → IsSome (o >>= f)
some_bind None f h k = h
some_bind (Some x) f h k = k x

digit_no_dot : (b : ℕ) → IsDigit b → (b == 46) ≡ false
digit_no_dot b h = grind (arith, nat_tests)

not_dot : (b : ℕ) → IsDigit b → b ≡ 46 → ⊥
not_dot b h e =
    let P : ℕ → Type 0 = λ n. is_ascii_digit n ≡ true in
    let d : false ≡ true = subst P e h in
    cc

split_is : (places : ℕ) (ys : List ℕ) (o : Option ℕ) → position (λ b. b == 46) ys ≡ o → IsSome (split_at_dot places ys o) → (d : ℕ) × HasParts places ys 0 d
unfolding split_at_dot
split_is places ys None e h =
    let n = natural_is 9 ys (bind_some (natural_of 9 ys) _ h) in
    (length ys, record { some = n.some; most = omega (arith, n.most); within = omega arith; digits = λ i a b. n.digits i b; tail = inl refl })
split_is places ys (Some d) e h =
    let at = cond_some (ltb (position_or_len (λ b. b == 46) ys) (length ys)) (position_or_len (λ b. b == 46) ys) d e in
    let lt : position_or_len (λ b. b == 46) ys < length ys = grind (arith, nat_tests) in
    let p : (get_or ys (position_or_len (λ b. b == 46) ys) 0 == 46) ≡ true = passes_at_first (λ b. b == 46) ys 0 lt in
    let q : (get_or ys d 0 == 46) ≡ true = rw (← at.1) p in
    let within : d < length ys = rw (← at.1) lt in
    let more = bind_some_more (natural_of 9 (take d ys)) _ h in
    let n = natural_is 9 (take d ys) (rw more.1 refl) in
    let m = natural_is places (drop (d + 1) ys) (bind_some (natural_of places (drop (d + 1) ys)) _ more.2) in
    let front : length (take d ys) ≡ d = omega (arith, length-take d ys) in
    let back : length (drop (d + 1) ys) ≡ length ys - (d + 1) = length-drop (d + 1) ys in
    let some : 0 < d = omega (arith, n.some) in
    let most : d ≤ 0 + 9 = omega (arith, n.most) in
    let more_digits : d + 1 < length ys = omega (arith, m.some) in
    let few : length ys ≤ d + 1 + places = omega (arith, m.most) in (
      d,
      record {
        some = some;
        most = most;
        within = omega arith;
        digits = λ i a b. rw (← (get_or-take d ys i 0 b)) (n.digits i (omega arith));
        tail = inr (record {
          within = within;
          is_dot = grind (arith, nat_tests);
          some = more_digits;
          most = few;
          digits = λ i a b. at_back ys d i a (m.digits (i - (d + 1)) (omega arith));
        });
      },
    )
  where
    at_back : (ys : List ℕ) (d i : ℕ) → d < i → IsDigit (get_or (drop (d + 1) ys) (i - (d + 1)) 0) → IsDigit (get_or ys i 0)
    at_back ys d i lt h =
        let same : (d + 1) + (i - (d + 1)) ≡ i = omega arith in
        rw (← same) (rw get_or-drop at h)

is_split : (places : ℕ) (ys : List ℕ) (d : ℕ) → HasParts places ys 0 d → IsSome (split_at_dot places ys (position (λ b. b == 46) ys))
unfolding split_at_dot
is_split places ys d h = by h.tail
  where
    by : (d ≡ length ys) ⊎ IsFraction places ys d → IsSome (split_at_dot places ys (position (λ b. b == 46) ys))
    by (inl e) =
        let some = h.some in
        let most = h.most in
        let at : position_or_len (λ b. b == 46) ys ≡ length ys = position_or_len_is (λ b. b == 46) ys (length ys) 0 (omega arith) (λ k l. digit_no_dot (get_or ys k 0) (h.digits k (omega arith) (omega arith))) (λ l. absurd (omega arith)) in
        let none : ltb (position_or_len (λ b. b == 46) ys) (length ys) ≡ false = grind (arith, nat_tests) in
        let n = is_natural 9 ys (record { some = omega arith; most = omega arith; digits = λ i l. h.digits i (omega arith) (omega arith) }) in
        rw none (some_bind (natural_of 9 ys) _ n (λ x. refl))
    by (inr f) =
        let some = h.some in
        let most = h.most in
        let within = f.within in
        let longer = f.some in
        let few = f.most in
        let at : position_or_len (λ b. b == 46) ys ≡ d = position_or_len_is (λ b. b == 46) ys d 0 (omega arith) (λ k l. digit_no_dot (get_or ys k 0) (h.digits k (omega arith) l)) (λ l. let e = f.is_dot in grind (arith, nat_tests)) in
        let there : ltb (position_or_len (λ b. b == 46) ys) (length ys) ≡ true = grind (arith, nat_tests) in
        let front : length (take d ys) ≡ d = omega (arith, length-take d ys) in
        let back : length (drop (d + 1) ys) ≡ length ys - (d + 1) = length-drop (d + 1) ys in
        let n = is_natural 9 (take d ys) (record { some = omega arith; most = omega arith; digits = λ i l. let j : i < d = omega arith in rw (get_or-take d ys i 0 j) (h.digits i (omega arith) j) }) in
        let m = is_natural places (drop (d + 1) ys) (record { some = omega arith; most = omega arith; digits = λ i l. rw (get_or-drop (d + 1) ys i 0) (f.digits (d + 1 + i) (omega arith) (omega arith)) }) in
        let split : IsSome (split_at_dot places ys (Some d)) = some_bind (natural_of 9 (take d ys)) _ n (λ x. some_bind (natural_of places (drop (d + 1) ys)) _ m (λ y. refl)) in
        let same : position (λ b. b == 46) ys ≡ Some d = rw (there, at) refl in
        rw same split

-- how many bytes the sign takes
abbrev pub sign : List ℕ → ℕ
sign xs = cond (is_minus xs) 1 0

magnitude_is : (xs : List ℕ) → (magnitude xs ≡ drop (sign xs) xs) × (sign xs ≤ length xs) × (sign xs ≤ 1)
magnitude_is [] = (refl, omega arith, omega arith)
magnitude_is (x ∷ xs) = by (x == 45)
  where
    by : (b : Bool) → ((if b then drop 1 (x ∷ xs) else (x ∷ xs)) ≡ drop (cond b 1 0) (x ∷ xs)) × (cond b 1 0 ≤ length (x ∷ xs)) × (cond b 1 0 ≤ 1)
    by true = (refl, omega arith, omega arith)
    by false = (refl, omega arith, omega arith)

-- parts of what follows a start, as parts of the whole
behind : (places : ℕ) (xs : List ℕ) (s d : ℕ) → s ≤ length xs → HasParts places (drop s xs) 0 d → HasParts places xs s (s + d)
behind places xs s d le h =
    let some = h.some in
    let most = h.most in
    let within = h.within in
    let back : length (drop s xs) ≡ length xs - s = length-drop s xs in
    record {
      some = omega arith;
      most = omega arith;
      within = omega arith;
      digits = λ i a b. at i a (h.digits (i - s) (omega arith) (omega arith));
      tail = by h.tail;
    }
  where
    at : (i : ℕ) → s ≤ i → IsDigit (get_or (drop s xs) (i - s) 0) → IsDigit (get_or xs i 0)
    at i a t = let same : s + (i - s) ≡ i = omega arith in rw (← same) (rw get_or-drop at t)

    by : (d ≡ length (drop s xs)) ⊎ IsFraction places (drop s xs) d → (s + d ≡ length xs) ⊎ IsFraction places xs (s + d)
    by (inl e) = let back : length (drop s xs) ≡ length xs - s = length-drop s xs in inl (omega arith)
    by (inr f) =
        let back : length (drop s xs) ≡ length xs - s = length-drop s xs in
        let within = f.within in
        let some = f.some in
        let most = f.most in
        inr (record {
          within = omega arith;
          is_dot = sym (get_or-drop s xs d 0) ∙ f.is_dot;
          some = omega arith;
          most = omega arith;
          digits = λ i a b. at i (omega arith) (f.digits (i - s) (omega arith) (omega arith));
        })

before : (places : ℕ) (xs : List ℕ) (s dot : ℕ) → s ≤ length xs → HasParts places xs s dot → HasParts places (drop s xs) 0 (dot - s)
before places xs s dot le h =
    let some = h.some in
    let most = h.most in
    let within = h.within in
    let back : length (drop s xs) ≡ length xs - s = length-drop s xs in
    record {
      some = omega arith;
      most = omega arith;
      within = omega arith;
      digits = λ i a b. rw (get_or-drop s xs i 0) (h.digits (s + i) (omega arith) (omega arith));
      tail = by h.tail;
    }
  where
    by : (dot ≡ length xs) ⊎ IsFraction places xs dot → (dot - s ≡ length (drop s xs)) ⊎ IsFraction places (drop s xs) (dot - s)
    by (inl e) = let back : length (drop s xs) ≡ length xs - s = length-drop s xs in inl (omega arith)
    by (inr f) =
        let back : length (drop s xs) ≡ length xs - s = length-drop s xs in
        let within = f.within in
        let some = f.some in
        let most = f.most in
        let start = h.some in
        let same : s + (dot - s) ≡ dot = omega arith in
        inr (record {
          within = omega arith;
          is_dot = rw (get_or-drop s xs (dot - s) 0, same) f.is_dot;
          some = omega arith;
          most = omega arith;
          digits = λ i a b. rw (get_or-drop s xs i 0) (f.digits (s + i) (omega arith) (omega arith));
        })

parts_of_decimal : (places : ℕ) (xs : List ℕ) → IsSome (decimal_of places xs) → (dot : ℕ) × HasParts places xs (sign xs) dot
unfolding decimal_of
parts_of_decimal places xs h =
    let m = magnitude_is xs in
    let split = split_is places (magnitude xs) (position (λ b. b == 46) (magnitude xs)) refl (bind_some _ _ h) in
    let P : List ℕ → Type 0 = λ ys. HasParts places ys 0 split.0 in
    (sign xs + split.0, behind places xs (sign xs) split.0 m.1 (subst P m.0 split.1))

decimal_of_parts : (places : ℕ) (xs : List ℕ) (dot : ℕ) → HasParts places xs (sign xs) dot → IsSome (decimal_of places xs)
unfolding decimal_of
decimal_of_parts places xs dot h =
    let m = magnitude_is xs in
    let P : List ℕ → Type 0 = λ ys. HasParts places ys 0 (dot - sign xs) in
    let parts = subst P (sym m.0) (before places xs (sign xs) dot m.1 h) in
    some_bind _ _ (is_split places (magnitude xs) (dot - sign xs) parts) (λ n. refl)

sign_of_front : (n : ℕ) (text rest : List ℕ) → 0 < n → n ≤ length text → sign (take n text ++ rest) ≡ sign text
sign_of_front n [] rest some le = absurd (omega arith)
sign_of_front zero (x ∷ xs) rest some le = absurd (omega arith)
sign_of_front (suc n) (x ∷ xs) rest some le = refl

front_at : (n i : ℕ) (text rest : List ℕ) → i < n → n ≤ length text → get_or (take n text ++ rest) i 0 ≡ get_or text i 0
front_at n i text rest lt le =
    let l : length (take n text) ≡ n = omega (arith, length-take n text) in
    let m : i < length (take n text) = omega arith in
    get_or_append_left (take n text) rest 0 i m ∙ get_or-take n text i 0 lt

rest_at : (n : ℕ) (text rest : List ℕ) (b : ℕ) → n ≤ length text → get_or (take n text ++ b ∷ rest) n 0 ≡ b
rest_at n text rest b le =
    let l : length (take n text) ≡ n = omega (arith, length-take n text) in
    let P : ℕ → Type 0 = λ k. get_or (take n text ++ b ∷ rest) k 0 ≡ b in
    subst P l (get_or-append_seam (take n text) b rest 0)

front_length : (n : ℕ) (text rest : List ℕ) → n ≤ length text → length (take n text ++ rest) ≡ n + length rest
front_length n text rest le = omega (arith, length-append (take n text) rest, length-take n text)

-- digits from a byte on, of which at most so many count, end there
pub record DigitsEnd (text : List ℕ) (from limit stop : ℕ) : Type 0 where
  pub within : stop ≤ length text
  pub least : from ≤ stop
  pub most : stop ≤ from + limit
  pub digits : (i : ℕ) → from ≤ i → i < stop → is_ascii_digit (get_or text i 0) ≡ true
  pub end : stop < length text → stop < from + limit → is_ascii_digit (get_or text stop 0) ≡ false

-- what is known of a decimal that begins as a text does
record Begins (places : ℕ) (text xs : List ℕ) (n start : ℕ) : Type 0 where
  longer : n ≤ length xs
  same : (i : ℕ) → i < n → get_or xs i 0 ≡ get_or text i 0
  dot : ℕ
  parts : HasParts places xs start dot

begins : (places : ℕ) (text : List ℕ) (n : ℕ) → 0 < n → n ≤ length text → CanContinue places (take n text) → (xs : List ℕ) × Begins places text xs n (sign text)
begins places text n some le c =
    let p = parts_of_decimal places (take n text ++ c.0) c.1 in
    let P : ℕ → Type 0 = λ s. HasParts places (take n text ++ c.0) s p.0 in (
      take n text ++ c.0,
      record {
        longer = omega (arith, front_length n text c.0 le);
        same = λ i l. front_at n i text c.0 l le;
        dot = p.0;
        parts = subst P (sign_of_front n text c.0 some le) p.1;
      },
    )

-- its whole digits end where the text's do
same_end : (places : ℕ) (text xs : List ℕ) (n start stop : ℕ) (b : Begins places text xs n start) → DigitsEnd text start 9 stop → stop < n → n ≤ length text → b.dot ≡ stop
same_end places text xs n start stop b d lt le =
    let least = d.least in
    let p = b.parts in
    let some = p.some in
    let most = p.most in
    let not_less : b.dot < stop → ⊥ = λ l. less l p.tail in
    let not_more : stop < b.dot → ⊥ = λ l. differ (get_or text stop 0) (rw (b.same stop lt) at (p.digits stop least l)) (d.end (omega arith) (omega arith)) in
    omega arith
  where
    differ : (x : ℕ) → IsDigit x → is_ascii_digit x ≡ false → ⊥
    differ x t f = cc

    less : b.dot < stop → (b.dot ≡ length xs) ⊎ IsFraction places xs b.dot → ⊥
    less l (inl e) = let longer = b.longer in omega arith
    less l (inr f) =
        let p = b.parts in
        let some = p.some in
        not_dot (get_or text b.dot 0) (d.digits b.dot (omega arith) l) (sym (b.same b.dot (omega arith)) ∙ f.is_dot)

-- a text that begins so goes on to a decimal
goes_on : (places : ℕ) (text rest : List ℕ) (n dot : ℕ) → sign (take n text ++ rest) ≡ sign text → HasParts places (take n text ++ rest) (sign text) dot → CanContinue places (take n text)
goes_on places text rest n dot e h =
    let P : ℕ → Type 0 = λ s. HasParts places (take n text ++ rest) s dot in
    (rest, decimal_of_parts places (take n text ++ rest) dot (subst P (sym e) h))

sign_alone : (n : ℕ) (text : List ℕ) → n ≡ sign text → n ≤ length text → sign (take n text ++ 48 ∷ []) ≡ sign text
sign_alone zero text e le = e
sign_alone (suc n) text e le = sign_of_front (suc n) text (48 ∷ []) (omega arith) le

is_zero : (x : ℕ) → x ≡ 48 → IsDigit x
is_zero x e = rw e refl

-- without a dot that counts the front ends behind the whole digits
pub ends_without_dot : (places : ℕ) (text : List ℕ) (dot : ℕ) → DigitsEnd text (sign text) 9 dot → ((sign text < dot) × (0 < places) × (dot < length text) × (get_or text dot 0 ≡ 46) → ⊥) → IsLongestFront places text dot
ends_without_dot places text dot d why = record {
  within = d.within;
  goes_on = by (eqb dot (sign text)) refl;
  stuck = λ n lt le c.
      let b = begins places text n (omega arith) le c in
      let e = same_end places text b.0 n (sign text) dot b.1 d lt le in
      stuck n b.0 lt le b.1 e b.1.parts.tail why;
}
  where
    by : (t : Bool) → eqb dot (sign text) ≡ t → CanContinue places (take dot text)
    by true t =
        let same : dot ≡ sign text = grind (arith, nat_tests) in
        let within = d.within in
        let size = front_length dot text (48 ∷ []) d.within in
        goes_on places text (48 ∷ []) dot (dot + 1) (sign_alone dot text same d.within) (record {
          some = omega arith;
          most = omega arith;
          within = omega arith;
          digits = λ i a b. let here : i ≡ dot = omega arith in is_zero (get_or (take dot text ++ 48 ∷ []) i 0) (ap (λ k. get_or (take dot text ++ 48 ∷ []) k 0) here ∙ rest_at dot text [] 48 d.within);
          tail = inl (omega arith);
        })
    by false t =
        let least = d.least in
        let most = d.most in
        let some : sign text < dot = grind (arith, nat_tests) in
        let size = front_length dot text [] d.within in
        goes_on places text [] dot dot (sign_of_front dot text [] (omega arith) d.within) (record {
          some = some;
          most = most;
          within = omega arith;
          digits = λ i a b. rw (front_at dot i text [] b d.within) (d.digits i a b);
          tail = inl (omega arith);
        })

    stuck : (n : ℕ) (xs : List ℕ) → dot < n → n ≤ length text → (b : Begins places text xs n (sign text)) → b.dot ≡ dot → (b.dot ≡ length xs) ⊎ IsFraction places xs b.dot → ((sign text < dot) × (0 < places) × (dot < length text) × (get_or text dot 0 ≡ 46) → ⊥) → ⊥
    stuck n xs lt le b e (inl end) w = let longer = b.longer in omega arith
    stuck n xs lt le b e (inr f) w =
        let p = b.parts in
        let start = p.some in
        let some = f.some in
        let most = f.most in
        w (omega arith, omega arith, omega arith, sym (b.same dot lt) ∙ (ap (λ k. get_or xs k 0) (sym e) ∙ f.is_dot))

-- with one it ends behind the digits of the fraction
pub ends_with_dot : (places : ℕ) (text : List ℕ) (dot stop : ℕ) → DigitsEnd text (sign text) 9 dot → sign text < dot → 0 < places → dot < length text → get_or text dot 0 ≡ 46 → DigitsEnd text (dot + 1) places stop → IsLongestFront places text stop
ends_with_dot places text dot stop d some more there is_dot f = record {
  within = f.within;
  goes_on = by (eqb stop (dot + 1)) refl;
  stuck = λ n lt le c.
      let least = f.least in
      let b = begins places text n (omega arith) le c in
      let e = same_end places text b.0 n (sign text) dot b.1 d (omega arith) le in
      stuck n b.0 lt le b.1 e b.1.parts.tail;
}
  where
    parts : (rest : List ℕ) → stop + length rest ≤ dot + 1 + places → dot + 1 < stop + length rest → ((i : ℕ) → stop ≤ i → i < stop + length rest → IsDigit (get_or (take stop text ++ rest) i 0)) → CanContinue places (take stop text)
    parts rest few one digits =
        let least = f.least in
        let most = d.most in
        let size = front_length stop text rest f.within in
        goes_on places text rest stop dot (sign_of_front stop text rest (omega arith) f.within) (record {
          some = some;
          most = most;
          within = omega arith;
          digits = λ i a b. rw (front_at stop i text rest (omega arith) f.within) (d.digits i a b);
          tail = inr (record {
            within = omega arith;
            is_dot = front_at stop dot text rest (omega arith) f.within ∙ is_dot;
            some = omega arith;
            most = omega arith;
            digits = λ i a b. which i a (omega arith) digits (ltb i stop) refl;
          });
        })
      where
        which : (i : ℕ) → dot < i → i < stop + length rest → ((i : ℕ) → stop ≤ i → i < stop + length rest → IsDigit (get_or (take stop text ++ rest) i 0)) → (t : Bool) → ltb i stop ≡ t → IsDigit (get_or (take stop text ++ rest) i 0)
        which i a b digits true t = let l : i < stop = grind (arith, nat_tests) in rw (front_at stop i text rest l f.within) (f.digits i (omega arith) l)
        which i a b digits false t = digits i (grind (arith, nat_tests)) b

    by : (t : Bool) → eqb stop (dot + 1) ≡ t → CanContinue places (take stop text)
    by true t =
        let same : stop ≡ dot + 1 = grind (arith, nat_tests) in
        parts (48 ∷ []) (omega arith) (omega arith) (λ i a b. let here : i ≡ stop = omega arith in is_zero (get_or (take stop text ++ 48 ∷ []) i 0) (ap (λ k. get_or (take stop text ++ 48 ∷ []) k 0) here ∙ rest_at stop text [] 48 f.within))
    by false t =
        let least = f.least in
        let most = f.most in
        let longer : dot + 1 < stop = grind (arith, nat_tests) in
        parts [] (omega arith) (omega arith) (λ i a b. absurd (omega arith))

    differ : (x : ℕ) → IsDigit x → is_ascii_digit x ≡ false → ⊥
    differ x t e = cc

    stuck : (n : ℕ) (xs : List ℕ) → stop < n → n ≤ length text → (b : Begins places text xs n (sign text)) → b.dot ≡ dot → (b.dot ≡ length xs) ⊎ IsFraction places xs b.dot → ⊥
    stuck n xs lt le b e (inl end) = let longer = b.longer in let least = f.least in omega arith
    stuck n xs lt le b e (inr g) =
        let longer = b.longer in
        let least = f.least in
        let most = g.most in
        let digit : IsDigit (get_or text stop 0) = rw (b.same stop lt) at (g.digits stop (omega arith) (omega arith)) in
        differ (get_or text stop 0) digit (f.end (omega arith) (omega arith))
