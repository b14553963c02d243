-- Printed numbers are read again.
use Rattle.std.proofs.Common.{◌≡◌, ◌∙◌, sym, ap, subst, ℕ, zero, suc, ◌+◌, ◌-◌, ◌*◌, ◌/◌, ◌%◌, ◌^◌, ◌<◌, ◌≤◌, Bool, true, false, cond, ◌&&◌, eqb, nat_lt, nat_le, IsTrue, List, [], ◌∷◌, ◌++◌, length, Some, Ok, inl, inr, ◌⊎◌, refl, append_assoc, append-nil, div-add-mod', div-le_self, arith}
use Rattle.std.specs.Fmt.{decimal}
use Rattle.std.proofs.Math.Seq.{take-append_seam, drop-append_seam}
use Rattle.std.proofs.Math.Nat.{pow-succ'}
use Rattle.std.proofs.Math.Arith.{mod-mul}
use Rattle.std.proofs.lemmas.Bool.Decides.{nat_tests}
use Rattle.std.proofs.lemmas.Fmt.{decimal_by_steps}
use Rattle.exact_json.specs.Parsing.{sees, after}
use Rattle.exact_json.specs.Decimals.{DecimalValue, IsExact, spelled, below, exponent_of, decimal_of}
use Rattle.std.specs.Char.{is_ascii_digit}
use Rattle.exact_json.specs.Numbers.{digits, whole, fraction, letter, exponent, number}
use Rattle.exact_json.specs.Printed.{fixed, magnitude, decimal_text}
use Rattle.exact_json.proofs.Runs.{AllPass, EndsRun, run_len, pass_append}
use Rattle.exact_json.proofs.Limits.{ten_pow, kept}

-- what may follow a value
abbrev pub Ends : List ℕ → Type 0
Ends [] = Unit {0}
Ends (b ∷ bytes) = (b ≡ 44) ⊎ ((b ≡ 93) ⊎ (b ≡ 125))

digits_over : (b : ℕ) (u j : List ℕ) → AllPass is_ascii_digit (b ∷ u) → EndsRun is_ascii_digit j → digits (b ∷ (u ++ j)) ≡ Ok (b ∷ u, j)
unfolding digits
digits_over b u j pass ends =
    let some : nat_lt 0 (length (b ∷ u)) ≡ true = grind (arith, nat_tests) in
    rw (run_len is_ascii_digit (b ∷ u) j pass ends, take-append_seam (b ∷ u) j, drop-append_seam (b ∷ u) j, some) refl

spelled_append : (m : ℕ) (ds : List ℕ) (b : ℕ) → spelled m (ds ++ b ∷ []) ≡ 10 * spelled m ds + (b - 48)
spelled_append m [] b = refl
spelled_append m (d ∷ ds) b = spelled_append (10 * m + (d - 48)) ds b

digit_is : (d : ℕ) → d < 10 → is_ascii_digit (48 + d) ≡ true
digit_is d small = grind (arith, nat_tests)

-- a zero alone, or a digit that isn't zero in front
abbrev Front : ℕ → List ℕ → Type 0
Front n ds = ((n ≡ 0) × (ds ≡ 48 ∷ [])) ⊎ ((b : ℕ) × (bs : List ℕ) × (ds ≡ b ∷ bs) × (49 ≤ b) × (b ≤ 57))

-- the digits of a number
record Spells (n : ℕ) (ds : List ℕ) : Type 0 where
  pass : AllPass is_ascii_digit ds
  value : spelled 0 ds ≡ n
  front : Front n ds

one_digit : (n : ℕ) → n < 10 → Spells n ((48 + n) ∷ [])
one_digit n small = record { pass = (digit_is n small, tt); value = omega arith; front = by n small }
  where
    by : (k : ℕ) → k < 10 → Front k ((48 + k) ∷ [])
    by zero h = inl (refl, refl)
    by (suc k) h = inr (48 + suc k, [], refl, omega arith, omega arith)

more_digits : (n : ℕ) (ds : List ℕ) → 10 ≤ n → Spells (n / 10) ds → Spells n (ds ++ (48 + n % 10) ∷ [])
more_digits n ds large s = record {
  pass = pass_append is_ascii_digit ds ((48 + n % 10) ∷ []) s.pass (digit_is (n % 10) (omega arith), tt);
  value = let v = s.value in let e : 10 * (n / 10) + (48 + n % 10 - 48) ≡ n = omega arith in spelled_append 0 ds (48 + n % 10) ∙ rw v e;
  front = by s.front;
}
  where
    by : Front (n / 10) ds → Front n (ds ++ (48 + n % 10) ∷ [])
    by (inl h) = absurd (let z = h.0 in omega arith)
    by (inr h) = inr (h.0, h.1 ++ (48 + n % 10) ∷ [], ap (λ (t : List ℕ). t ++ (48 + n % 10) ∷ []) h.2, h.3, h.4)

decimal_spells : (n : ℕ) → n < 2 ^ 64 → Spells n (decimal n)
decimal_spells n small = decimal_by_steps (λ m ds. Spells m ds) one_digit more_digits n small

whole_front : (n : ℕ) (ds j : List ℕ) → Front n ds → AllPass is_ascii_digit ds → EndsRun is_ascii_digit j → whole (ds ++ j) ≡ Ok (ds, j)
unfolding whole
whole_front n ds j (inl h) pass ends = rw h.1 refl
whole_front n ds j (inr h) pass ends =
    let other : eqb h.0 48 ≡ false = let l = h.3 in grind (arith, nat_tests) in
    let all : AllPass is_ascii_digit (h.0 ∷ h.1) = subst (λ (t : List ℕ). AllPass is_ascii_digit t) h.2 pass in
    rw (h.2, other) (digits_over h.0 h.1 j all ends)

whole_again : (n : ℕ) (ds j : List ℕ) → Spells n ds → EndsRun is_ascii_digit j → whole (ds ++ j) ≡ Ok (ds, j)
whole_again n ds j s ends = whole_front n ds j s.front s.pass ends

-- the digits behind the point
fixed_pass : (p n : ℕ) → AllPass is_ascii_digit (fixed p n)
fixed_pass zero n = tt
fixed_pass (suc p) n = (digit_is (n / 10 ^ p % 10) (omega arith), fixed_pass p n)

fixed_long : (p n : ℕ) → length (fixed p n) ≡ p
fixed_long zero n = refl
fixed_long (suc p) n = omega (arith, fixed_long p n)

spread : (m q c r : ℕ) → (10 * m + q) * c + r ≡ m * (10 * c) + (q * c + r)
spread m q c r = grind arith

fixed_spells : (p m n : ℕ) → spelled m (fixed p n) ≡ m * 10 ^ p + n % 10 ^ p
fixed_spells zero m n = omega arith
fixed_spells (suc p) m n =
    let q = n / 10 ^ p % 10 in
    let ten : 0 < 10 = omega arith in
    let power : 10 ^ suc p ≡ 10 * 10 ^ p = pow-succ' 10 p in
    let low : n % 10 ^ suc p ≡ q * 10 ^ p + n % 10 ^ p = ap (λ (w : ℕ). n % w) power ∙ mod-mul n ten (ten_pow p) in
    let digit : 48 + n / 10 ^ p % 10 - 48 ≡ n / 10 ^ p % 10 = omega arith in
    ap (λ (k : ℕ). spelled (10 * m + k) (fixed p n)) digit ∙ fixed_spells p (10 * m + q) n ∙ rw (low, power) (spread m q (10 ^ p) (n % 10 ^ p))

fraction_again : (p n : ℕ) (j : List ℕ) → EndsRun is_ascii_digit j → fraction (46 ∷ (fixed (suc p) n ++ j)) ≡ Ok (fixed (suc p) n, j)
unfolding fraction
fraction_again p n j ends = digits_over (48 + n / 10 ^ p % 10) (fixed p n) j (fixed_pass (suc p) n) ends

-- what follows a value goes on no number
no_fraction : (j : List ℕ) → Ends j → fraction j ≡ Ok ([], j)
unfolding fraction
no_fraction [] ends = refl
no_fraction (b ∷ j) (inl e) = rw e refl
no_fraction (b ∷ j) (inr (inl e)) = rw e refl
no_fraction (b ∷ j) (inr (inr e)) = rw e refl

no_exponent : (j : List ℕ) → Ends j → exponent j ≡ Ok ((false, []), j)
unfolding exponent letter
no_exponent [] ends = refl
no_exponent (b ∷ j) (inl e) = rw e refl
no_exponent (b ∷ j) (inr (inl e)) = rw e refl
no_exponent (b ∷ j) (inr (inr e)) = rw e refl

no_digit : (j : List ℕ) → Ends j → EndsRun is_ascii_digit j
no_digit [] ends = tt
no_digit (b ∷ j) (inl e) = rw e refl
no_digit (b ∷ j) (inr (inl e)) = rw e refl
no_digit (b ∷ j) (inr (inr e)) = rw e refl

same_sign : (negative : Bool) (n : ℕ) → (IsTrue negative → 0 < n) → negative && nat_lt 0 n ≡ negative
same_sign false n some = refl
same_sign true n some = let h = some refl in grind (arith, nat_tests)

-- the sign, digits and places that a decimal was printed from
decimal_again : (negative : Bool) (n p q : ℕ) (ds fs : List ℕ) → spelled 0 ds ≡ q → spelled q fs ≡ n → length fs ≡ p → q ≤ n → n < 10 ^ 18 → p ≤ 18 → (IsTrue negative → 0 < n)
    → decimal_of negative ds fs false [] ≡ Some (record { negative = negative; digits = n; places = p })
unfolding decimal_of exponent_of
decimal_again negative n p q ds fs a b len le small places some =
    let first : below q ≡ Some q = kept q (omega arith) in
    let second : below n ≡ Some n = kept n small in
    let zero_fits : below 0 ≡ Some 0 = kept 0 (omega arith) in
    let none : nat_le 0 p ≡ true = grind (arith, nat_tests) in
    let few : nat_le (p - 0) 18 ≡ true = grind (arith, nat_tests) in
    let same : p - 0 ≡ p = omega arith in
    rw (a, first, b, second, zero_fits, len, none, few, same, same_sign negative n some) refl

abbrev minus_of : Bool → List ℕ
minus_of negative = cond negative (45 ∷ []) []

-- a sign, digits, and a tail
number_of : (negative : Bool) (d : DecimalValue) (m ds fs tail rest : List ℕ) → whole m ≡ Ok (ds, tail) → fraction tail ≡ Ok (fs, rest) → exponent rest ≡ Ok ((false, []), rest)
    → decimal_of negative ds fs false [] ≡ Some d → sees 45 m ≡ false → after 45 m ≡ m → number (minus_of negative ++ m) ≡ Ok (d, rest)
unfolding number
number_of true d m ds fs tail rest w f e made bare same = rw (w, f, e, made) refl
number_of false d m ds fs tail rest w f e made bare same = rw (bare, same, w, f, e, made) refl

no_minus : (n : ℕ) (ds r : List ℕ) → Spells n ds → (sees 45 (ds ++ r) ≡ false) × (after 45 (ds ++ r) ≡ ds ++ r)
no_minus n ds r s = by s.front
  where
    by : Front n ds → (sees 45 (ds ++ r) ≡ false) × (after 45 (ds ++ r) ≡ ds ++ r)
    by (inl h) = rw h.1 (refl, refl)
    by (inr h) =
        let other : eqb h.0 45 ≡ false = let l = h.3 in grind (arith, nat_tests) in
        rw (h.2, other) (refl, refl)

number_plain : (negative : Bool) (n : ℕ) (rest : List ℕ) → n < 10 ^ 18 → (IsTrue negative → 0 < n) → Ends rest
    → number (minus_of negative ++ (decimal n ++ rest)) ≡ Ok (record { negative = negative; digits = n; places = 0 }, rest)
number_plain negative n rest small some ends =
    let s = decimal_spells n (omega arith) in
    let m = no_minus n (decimal n) rest s in
    number_of negative _ (decimal n ++ rest) (decimal n) [] rest rest (whole_again n (decimal n) rest s (no_digit rest ends)) (no_fraction rest ends) (no_exponent rest ends)
    (decimal_again negative n 0 n (decimal n) [] s.value refl refl (omega arith) small (omega arith) some) m.0 m.1

number_point : (negative : Bool) (n p : ℕ) (rest : List ℕ) → n < 10 ^ 18 → suc p ≤ 18 → (IsTrue negative → 0 < n) → Ends rest
    → number (minus_of negative ++ (decimal (n / 10 ^ suc p) ++ 46 ∷ (fixed (suc p) n ++ rest))) ≡ Ok (record { negative = negative; digits = n; places = suc p }, rest)
number_point negative n p rest small places some ends =
    let q = n / 10 ^ suc p in
    let less : q ≤ n = div-le_self n (10 ^ suc p) in
    let s = decimal_spells q (omega arith) in
    let tail = 46 ∷ (fixed (suc p) n ++ rest) in
    let m = no_minus q (decimal q) tail s in
    number_of negative _ (decimal q ++ tail) (decimal q) (fixed (suc p) n) tail rest (whole_again q (decimal q) tail s refl) (fraction_again p n rest (no_digit rest ends)) (no_exponent rest ends)
    (decimal_again negative n (suc p) q (decimal q) (fixed (suc p) n) s.value (fixed_spells (suc p) q n ∙ div-add-mod' n (10 ^ suc p)) (fixed_long (suc p) n) less small places some) m.0 m.1

plain_text : (negative : Bool) (n : ℕ) → decimal_text (record { negative = negative; digits = n; places = 0 }) ≡ minus_of negative ++ decimal n
unfolding decimal_text magnitude
plain_text negative n = refl

point_text : (negative : Bool) (n p : ℕ) → decimal_text (record { negative = negative; digits = n; places = suc p }) ≡ minus_of negative ++ (decimal (n / 10 ^ suc p) ++ 46 ∷ fixed (suc p) n)
unfolding decimal_text magnitude
point_text negative n p = let some : eqb (suc p) 0 ≡ false = grind (arith, nat_tests) in rw some refl

again_by : (negative : Bool) (n p : ℕ) (rest : List ℕ) → n < 10 ^ 18 → p ≤ 18 → (IsTrue negative → 0 < n) → Ends rest
    → number (decimal_text (record { negative = negative; digits = n; places = p }) ++ rest) ≡ Ok (record { negative = negative; digits = n; places = p }, rest)
again_by negative n zero rest small places some ends =
    rw (plain_text negative n, append_assoc (minus_of negative) (decimal n) rest) (number_plain negative n rest small some ends)
again_by negative n (suc p) rest small places some ends =
    let q = decimal (n / 10 ^ suc p) in
    let f = 46 ∷ fixed (suc p) n in
    rw (point_text negative n p, append_assoc (minus_of negative) (q ++ f) rest, append_assoc q f rest) (number_point negative n p rest small places some ends)

pub number_again : (d : DecimalValue) (rest : List ℕ) → IsExact d → Ends rest → number (decimal_text d ++ rest) ≡ Ok (d, rest)
number_again d rest exact ends = again_by d.negative d.digits d.places rest exact.0 exact.1 exact.2 ends

-- what a number begins with
abbrev pub Leads : List ℕ → Type 0
Leads t = (b : ℕ) × (bs : List ℕ) × (t ≡ b ∷ bs) × ((b ≡ 45) ⊎ ((48 ≤ b) × (b ≤ 57)))

digits_lead : (n : ℕ) (ds r : List ℕ) → Spells n ds → Leads (ds ++ r)
digits_lead n ds r s = by s.front
  where
    by : Front n ds → Leads (ds ++ r)
    by (inl h) = (48, r, ap (λ (t : List ℕ). t ++ r) h.1, inr (omega arith, omega arith))
    by (inr h) = let low = h.3 in (h.0, h.1 ++ r, ap (λ (t : List ℕ). t ++ r) h.2, inr (omega arith, h.4))

sign_leads : (negative : Bool) (m : List ℕ) → Leads m → Leads (minus_of negative ++ m)
sign_leads true m l = (45, m, refl, inl refl)
sign_leads false m l = l

leads_by : (negative : Bool) (n p : ℕ) → n < 10 ^ 18 → Leads (decimal_text (record { negative = negative; digits = n; places = p }))
leads_by negative n zero small =
    let l : Leads (decimal n ++ []) = digits_lead n (decimal n) [] (decimal_spells n (omega arith)) in
    let m : Leads (decimal n) = subst (λ (t : List ℕ). Leads t) (append-nil (decimal n)) l in
    subst (λ (t : List ℕ). Leads t) (sym (plain_text negative n)) (sign_leads negative (decimal n) m)
leads_by negative n (suc p) small =
    let less : n / 10 ^ suc p ≤ n = div-le_self n (10 ^ suc p) in
    subst (λ (t : List ℕ). Leads t) (sym (point_text negative n p)) (sign_leads negative (decimal (n / 10 ^ suc p) ++ 46 ∷ fixed (suc p) n) (digits_lead (n / 10 ^ suc p) (decimal (n / 10 ^ suc p)) (46 ∷ fixed (suc p) n) (decimal_spells (n / 10 ^ suc p) (omega arith))))

pub number_leads : (d : DecimalValue) → IsExact d → Leads (decimal_text d)
number_leads d exact = leads_by d.negative d.digits d.places exact.0
