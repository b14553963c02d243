-- Written conditions are read.
use Rattle.std.proofs.Common.{◌≡◌, ◌∙◌, ℕ, zero, suc, ◌+◌, ◌<◌, ◌≤◌, ◌⊎◌, inl, inr, List, [], ◌∷◌, ◌++◌, length, true, false, eqb, ltb, Ok, codes, append_assoc, refl, ap, sym, subst, arith}
use Rattle.std.specs.List.{count_by}
use Rattle.std.specs.Str.{bytes_eq}
use Rattle.std.proofs.lemmas.Bool.Decides.{nat_tests}
use Rattle.gh_base.specs.declared.kinds.ModelKind.TheVariants.{Condition}
use Rattle.exact_json.specs.Parsing.{turns}
use Rattle.model_eval.specs.declared.conditions.NumberName.{NumberName}
use Rattle.model_eval.specs.declared.conditions.Test.{Test}
use Rattle.model_eval.specs.declared.conditions.Test.TheVariants as t
use Rattle.model_eval.specs.declared.conditions.WordName.{WordName}
use Rattle.model_eval.specs.declared.custom_model.Area.{Area}
use Rattle.model_texts.specs.Tokens.{Reader, spelling, next, ahead, sees, after, expect, finish}
use Rattle.model_texts.specs.Conditions.{part_turn, parts, nots, bang_turn, bangs, atom, negation, conjunction, alternative, test_at, condition_of}
use Rattle.model_laws.specs.Conditions.{flags}
use Rattle.model_laws.specs.Grammar.{numbers, enums, IsPlain, IsInParentheses, IsDenied, AreJoined, IsAll, IsOf, IsWritten, ConditionsAreRead}
use Rattle.model_laws.proofs.Cuts.{nothing_ahead, spelled_read}
use Rattle.model_laws.proofs.Membership.{AllAre, of_all}
use Rattle.model_laws.proofs.Plain.{plain_read}
use Rattle.model_laws.proofs.Streams.{AreRead, parted, shorter, no_longer}

-- a token that is seen, or not
seen : (token i : List ℕ) → spelling i ≡ token → bytes_eq token token ≡ true → (sees token i ≡ true) × (after token i ≡ next i)
unfolding sees after
seen token i e same = rw (e, same) (refl, refl)

unseen : (token other i : List ℕ) → spelling i ≡ other → bytes_eq other token ≡ false → (sees token i ≡ false) × (after token i ≡ i)
unfolding sees after
unseen token other i e differ = rw (e, differ) (refl, refl)

abbrev pub Is : Type 1
Is = Test → List (List ℕ) → Type 0

-- its first token is none of the signs
pub record Opens (tokens : List (List ℕ)) : Type 0 where
  pub first : List ℕ
  pub more : List (List ℕ)
  pub are : tokens ≡ first ∷ more
  pub no_bang : bytes_eq first (codes "!") ≡ false

-- it has a token
pub record HasSome (tokens : List (List ℕ)) : Type 0 where
  pub first : List ℕ
  pub more : List (List ℕ)
  pub are : tokens ≡ first ∷ more

-- what is so is read by this reader, where this holds of what follows
abbrev pub IsReadBy : Is → Reader Test → (List ℕ → Type 0) → Type 0
IsReadBy W reader After = (x : Test) (tokens : List (List ℕ)) (i rest : List ℕ) → W x tokens → AreRead tokens i rest → After rest → reader i ≡ Ok (x, rest)

abbrev pub Any : List ℕ → Type 0
Any rest = Unit {0}

-- ---- exclamation marks

no_bang : (i rest : List ℕ) (tokens : List (List ℕ)) → Opens tokens → AreRead tokens i rest → (sees (codes "!") i ≡ false) × (after (codes "!") i ≡ i)
no_bang i rest tokens o h =
    let r : AreRead (o.first ∷ o.more) i rest = subst (λ (ts : List (List ℕ)). AreRead ts i rest) o.are h in
    unseen (codes "!") o.first i r.0 o.no_bang

-- marks are counted up to what is so
record Counted (W : Is) (n : ℕ) (x : Test) (i rest : List ℕ) (m : ℕ) : Type 0 where
  y : Test
  tokens : List (List ℕ)
  mid : List ℕ
  is : W y tokens
  read : AreRead tokens mid rest
  same : x ≡ nots n y
  counted : (fuel : ℕ) → length i ≤ fuel → turns Condition bang_turn fuel m i ≡ Ok (m + n, mid)

marks : (W : Is) → ((x : Test) (tokens : List (List ℕ)) → W x tokens → Opens tokens) → (n : ℕ) (x : Test) (tokens : List (List ℕ)) (i rest : List ℕ) (m : ℕ) →
    IsDenied W n x tokens → AreRead tokens i rest → Counted W n x i rest m
marks W opens zero x tokens i rest m w h = record { y = x; tokens = tokens; mid = i; is = w; read = h; same = refl; counted = by }
  where
    by : (fuel : ℕ) → length i ≤ fuel → turns Condition bang_turn fuel m i ≡ Ok (m + 0, i)
    by zero short =
        let o = opens x tokens w in
        let r : AreRead (o.first ∷ o.more) i rest = subst (λ (ts : List (List ℕ)). AreRead ts i rest) o.are h in
        absurd (let less = shorter i o.first r.0 r.1.0 in omega arith)
    by (suc fuel) short = let b = no_bang i rest tokens (opens x tokens w) h in rw (b.0, b.1) (ap (λ (k : ℕ). Ok (k, i)) (omega arith))
marks W opens (suc n) x tokens i rest m (y, more, e, f, w) h =
    let r : AreRead (codes "!" ∷ more) i rest = subst (λ (ts : List (List ℕ)). AreRead ts i rest) f h in
    let c = marks W opens n y more (next i) rest (m + 1) w r.1.1 in
    record { y = c.y; tokens = c.tokens; mid = c.mid; is = c.is; read = c.read; same = e ∙ ap t.Not c.same; counted = by r.0 r.1.0 c.mid c.counted }
  where
    by : spelling i ≡ codes "!" → 0 < length (codes "!") → (mid : List ℕ) → ((fuel : ℕ) → length (next i) ≤ fuel → turns Condition bang_turn fuel (m + 1) (next i) ≡ Ok (m + 1 + n, mid)) →
        (fuel : ℕ) → length i ≤ fuel → turns Condition bang_turn fuel m i ≡ Ok (m + suc n, mid)
    by a some mid go zero short = absurd (let less = shorter i (codes "!") a some in omega arith)
    by a some mid go (suc fuel) short =
        let less = shorter i (codes "!") a some in
        let s = seen (codes "!") i a refl in
        rw (s.0, s.1) (go fuel (omega arith) ∙ ap (λ (k : ℕ). Ok (k, mid)) (omega arith))

negation_read : (areas : List Area) (W : Is) (inner : Reader Test) → ((x : Test) (tokens : List (List ℕ)) → W x tokens → Opens tokens) → IsReadBy W (atom areas inner) Any →
    IsReadBy (λ x tokens. (n : ℕ) × IsDenied W n x tokens) (negation areas inner) Any
unfolding negation bangs
negation_read areas W inner opens reads x tokens i rest (n, w) h u =
    let c = marks W opens n x tokens i rest 0 w h in
    let counted : turns Condition bang_turn (length i) 0 i ≡ Ok (0 + n, c.mid) = c.counted (length i) (omega arith) in
    let atom_is = reads c.y c.tokens c.mid rest c.is c.read tt in
    let z : 0 + n ≡ n = omega arith in
    rw (counted, atom_is, z) (ap (λ (y : Test). Ok (y, rest)) (sym c.same))

denied_some : (W : Is) → ((x : Test) (tokens : List (List ℕ)) → W x tokens → Opens tokens) → (n : ℕ) (x : Test) (tokens : List (List ℕ)) → IsDenied W n x tokens → HasSome tokens
denied_some W opens zero x tokens w = let o = opens x tokens w in record { first = o.first; more = o.more; are = o.are }
denied_some W opens (suc n) x tokens (y, more, e, f, w) = record { first = codes "!"; more = more; are = f }

-- ---- one or more with a sign between

joined_some : (W : Is) (sign : List ℕ) → ((x : Test) (tokens : List (List ℕ)) → W x tokens → HasSome tokens) → (xs : List Test) (tokens : List (List ℕ)) → AreJoined W sign xs tokens → HasSome tokens
joined_some W sign some [] tokens h = absurd h
joined_some W sign some (x ∷ []) tokens h = some x tokens h
joined_some W sign some (x ∷ y ∷ xs) tokens (first, rest, e, h) =
    let s = some x first h.0 in
    let are = s.are in
    record { first = s.first; more = s.more ++ sign ∷ rest; are = e ∙ ap (λ (ts : List (List ℕ)). ts ++ sign ∷ rest) are }

module _ (W : Is) (part : Reader Test) (sign : List ℕ) (After : List ℕ → Type 0) (same : bytes_eq sign sign ≡ true)
    (some : (x : Test) (tokens : List (List ℕ)) → W x tokens → HasSome tokens) (reads : IsReadBy W part After) (between : (i : List ℕ) → spelling i ≡ sign → After i) where
  parts_from : (n : ℕ) (xs : List Test) (found : List Test) (tokens : List (List ℕ)) (i rest : List ℕ) → AreJoined W sign xs tokens → AreRead tokens i rest → After rest → sees sign rest ≡ false → after sign rest ≡ rest →
      length i ≤ n → turns Condition (part_turn part sign) n found i ≡ Ok (found ++ xs, rest)
  parts_from zero xs found tokens i rest w h a no_more stays short =
      let s = joined_some W sign some xs tokens w in
      let r : AreRead (s.first ∷ s.more) i rest = subst (λ (ts : List (List ℕ)). AreRead ts i rest) s.are h in
      absurd (let less = shorter i s.first r.0 r.1.0 in omega arith)
  parts_from (suc n) [] found tokens i rest w h a no_more stays short = absurd w
  parts_from (suc n) (x ∷ []) found tokens i rest w h a no_more stays short = rw (reads x tokens i rest w h a, no_more, stays) refl
  parts_from (suc n) (x ∷ y ∷ xs) found tokens i rest (first, later, e, w) h a no_more stays short =
      let r : AreRead (first ++ sign ∷ later) i rest = subst (λ (ts : List (List ℕ)). AreRead ts i rest) e h in
      let m = parted first (sign ∷ later) i rest r in
      let s = seen sign m.mid m.back.0 same in
      let less = shorter m.mid sign m.back.0 m.back.1.0 in
      let less_too = no_longer first i m.mid m.front in
      let one = reads x first i m.mid w.0 m.front (between m.mid m.back.0) in
      let go = parts_from n (y ∷ xs) (found ++ x ∷ []) later (next m.mid) rest w.1 m.back.1.1 a no_more stays (omega arith) in
      rw (one, s.0, s.1) (go ∙ ap (λ (all : List Test). Ok (all, rest)) (append_assoc found (x ∷ []) (y ∷ xs)))

  pub parts_read : (xs : List Test) (tokens : List (List ℕ)) (i rest : List ℕ) → AreJoined W sign xs tokens → AreRead tokens i rest → After rest → sees sign rest ≡ false → after sign rest ≡ rest →
      parts part sign i ≡ Ok (xs, rest)
  unfolding parts
  parts_read xs tokens i rest w h a no_more stays = parts_from (length i) xs [] tokens i rest w h a no_more stays (omega arith)

-- no && comes next
pub record NoAnd (rest : List ℕ) : Type 0 where
  pub unseen : sees (codes "&&") rest ≡ false
  pub stays : after (codes "&&") rest ≡ rest

-- neither && nor || comes next
pub record NoSign (rest : List ℕ) : Type 0 where
  pub no_and : NoAnd rest
  pub unseen : sees (codes "||") rest ≡ false
  pub stays : after (codes "||") rest ≡ rest

module _ (areas : List Area) (W : Is) (inner : Reader Test) (opens : (x : Test) (tokens : List (List ℕ)) → W x tokens → Opens tokens) (reads : IsReadBy W (atom areas inner) Any) where
  abbrev Denied : Is
  Denied x tokens = (n : ℕ) × IsDenied W n x tokens

  denied_has : (x : Test) (tokens : List (List ℕ)) → Denied x tokens → HasSome tokens
  denied_has x tokens (n, w) = denied_some W opens n x tokens w

  all_has : (x : Test) (tokens : List (List ℕ)) → IsAll Denied x tokens → HasSome tokens
  all_has x tokens (inl w) = denied_has x tokens w
  all_has x tokens (inr (a, b, xs, e, w)) = joined_some Denied (codes "&&") denied_has (a ∷ b ∷ xs) tokens w

  conjunction_read : IsReadBy (IsAll Denied) (conjunction areas inner) NoAnd
  unfolding conjunction
  conjunction_read x tokens i rest (inl w) h a =
      let u = a.unseen in
      let s = a.stays in
      rw (parts_read Denied (negation areas inner) (codes "&&") Any refl denied_has (negation_read areas W inner opens reads) (λ j e. tt) (x ∷ []) tokens i rest w h tt u s) refl
  conjunction_read x tokens i rest (inr (p, q, xs, e, w)) h a =
      let u = a.unseen in
      let s = a.stays in
      rw (parts_read Denied (negation areas inner) (codes "&&") Any refl denied_has (negation_read areas W inner opens reads) (λ j e. tt) (p ∷ q ∷ xs) tokens i rest w h tt u s, e) refl

  at_or : (i : List ℕ) → spelling i ≡ codes "||" → NoAnd i
  at_or i e = let u = unseen (codes "&&") (codes "||") i e refl in record { unseen = u.0; stays = u.1 }

  pub alternative_read : IsReadBy (IsOf W) (alternative areas inner) NoSign
  unfolding alternative
  alternative_read x tokens i rest (inl w) h a =
      rw (parts_read (IsAll Denied) (conjunction areas inner) (codes "||") NoAnd refl all_has conjunction_read at_or (x ∷ []) tokens i rest w h a.no_and a.unseen a.stays) refl
  alternative_read x tokens i rest (inr (p, q, xs, e, w)) h a =
      rw (parts_read (IsAll Denied) (conjunction areas inner) (codes "||") NoAnd refl all_has conjunction_read at_or (p ∷ q ∷ xs) tokens i rest w h a.no_and a.unseen a.stays, e) refl

-- ---- what a condition begins with

module _ (areas : List Area) where
  flags_open : AllAre (λ (f : List ℕ × Test). (bytes_eq f.0 (codes "!") ≡ false) × (bytes_eq f.0 (codes "(") ≡ false)) flags
  flags_open = ((refl, refl), ((refl, refl), ((refl, refl), ((refl, refl), ((refl, refl), ((refl, refl), ((refl, refl), tt)))))))

  enums_open : AllAre (λ (f : List ℕ × WordName). (bytes_eq f.0 (codes "!") ≡ false) × (bytes_eq f.0 (codes "(") ≡ false)) enums
  enums_open = ((refl, refl), ((refl, refl), ((refl, refl), tt)))

  numbers_open : AllAre (λ (f : List ℕ × NumberName). (bytes_eq f.0 (codes "!") ≡ false) × (bytes_eq f.0 (codes "(") ≡ false)) numbers
  numbers_open = ((refl, refl), ((refl, refl), ((refl, refl), ((refl, refl), ((refl, refl), tt)))))

  -- a plain condition begins with neither a mark nor a parenthesis
  record PlainOpens (tokens : List (List ℕ)) : Type 0 where
    opens : Opens tokens
    no_parenthesis : bytes_eq opens.first (codes "(") ≡ false

  plain_opens : (x : Test) (tokens : List (List ℕ)) → IsPlain areas x tokens → PlainOpens tokens
  plain_opens x tokens (inl (name, e, c)) =
      let f = of_all (λ (f : List ℕ × Test). (bytes_eq f.0 (codes "!") ≡ false) × (bytes_eq f.0 (codes "(") ≡ false)) flags (name, x) flags_open c in
      record { opens = record { first = name; more = []; are = e; no_bang = f.0 }; no_parenthesis = f.1 }
  plain_opens x tokens (inr (inl p)) = record { opens = record { first = codes "in_" ++ p.id; more = []; are = p.tokens_are; no_bang = refl }; no_parenthesis = refl }
  plain_opens x tokens (inr (inr (inl p))) =
      let f = of_all (λ (f : List ℕ × WordName). (bytes_eq f.0 (codes "!") ≡ false) × (bytes_eq f.0 (codes "(") ≡ false)) enums p.enum enums_open p.is_enum in
      record { opens = record { first = p.enum.0; more = p.equal.0 ∷ p.written.0 ∷ []; are = p.tokens_are; no_bang = f.0 }; no_parenthesis = f.1 }
  plain_opens x tokens (inr (inr (inr p))) =
      let f = of_all (λ (f : List ℕ × NumberName). (bytes_eq f.0 (codes "!") ≡ false) × (bytes_eq f.0 (codes "(") ≡ false)) numbers p.number numbers_open p.is_number in
      record { opens = record { first = p.number.0; more = p.operator.0 ∷ p.constant ∷ []; are = p.tokens_are; no_bang = f.0 }; no_parenthesis = f.1 }

  plain_atom : (inner : Reader Test) → IsReadBy (IsPlain areas) (atom areas inner) Any
  unfolding atom
  plain_atom inner x tokens i rest w h u =
      let p = plain_opens x tokens w in
      let o = p.opens in
      let r : AreRead (o.first ∷ o.more) i rest = subst (λ (ts : List (List ℕ)). AreRead ts i rest) o.are h in
      let s = unseen (codes "(") o.first i r.0 p.no_parenthesis in
      rw (s.0, s.1, plain_read areas x tokens i rest w h) refl

  at_close : (i : List ℕ) → spelling i ≡ codes ")" → NoSign i
  at_close i e =
      let u = unseen (codes "&&") (codes ")") i e refl in
      let v = unseen (codes "||") (codes ")") i e refl in
      record { no_and = record { unseen = u.0; stays = u.1 }; unseen = v.0; stays = v.1 }

  closes : (i : List ℕ) → spelling i ≡ codes ")" → expect Condition (codes ")") i ≡ Ok (tt, next i)
  unfolding expect
  closes i e = let s = seen (codes ")") i e refl in rw s.0 refl

  parenthesis_atom : (W : Is) (inner : Reader Test) → IsReadBy W inner NoSign → IsReadBy (IsInParentheses W) (atom areas inner) Any
  unfolding atom
  parenthesis_atom W inner reads x tokens i rest (inside, e, w) h u =
      let r : AreRead (codes "(" ∷ (inside ++ codes ")" ∷ [])) i rest = subst (λ (ts : List (List ℕ)). AreRead ts i rest) e h in
      let s = seen (codes "(") i r.0 refl in
      let m = parted inside (codes ")" ∷ []) (next i) rest r.1.1 in
      let one = reads x inside (next i) m.mid w m.front (at_close m.mid m.back.0) in
      rw (s.0, s.1, one, closes m.mid m.back.0) (ap (λ (left : List ℕ). Ok (x, left)) m.back.1.1)

  either_atom : (W : Is) (inner : Reader Test) → IsReadBy W inner NoSign → IsReadBy (λ x tokens. IsPlain areas x tokens ⊎ IsInParentheses W x tokens) (atom areas inner) Any
  either_atom W inner reads x tokens i rest (inl w) h u = plain_atom inner x tokens i rest w h u
  either_atom W inner reads x tokens i rest (inr w) h u = parenthesis_atom W inner reads x tokens i rest w h u

  either_opens : (W : Is) (x : Test) (tokens : List (List ℕ)) → IsPlain areas x tokens ⊎ IsInParentheses W x tokens → Opens tokens
  either_opens W x tokens (inl w) = (plain_opens x tokens w).opens
  either_opens W x tokens (inr (inside, e, w)) = record { first = codes "("; more = inside ++ codes ")" ∷ []; are = e; no_bang = refl }

  written_read : (depth : ℕ) → IsReadBy (IsWritten areas depth) (test_at areas (suc depth)) NoSign
  unfolding test_at
  written_read zero x tokens i rest w h a = alternative_read areas (IsPlain areas) (test_at areas zero) (λ y ts v. (plain_opens y ts v).opens) (plain_atom (test_at areas zero)) x tokens i rest w h a
  written_read (suc depth) x tokens i rest w h a =
      alternative_read areas (λ y ts. IsPlain areas y ts ⊎ IsInParentheses (IsWritten areas depth) y ts) (test_at areas (suc depth)) (either_opens (IsWritten areas depth))
      (either_atom (IsWritten areas depth) (test_at areas (suc depth)) (written_read depth)) x tokens i rest w h a

at_end : (rest : List ℕ) → spelling rest ≡ [] → NoSign rest
at_end rest e =
    let u = unseen (codes "&&") [] rest e refl in
    let v = unseen (codes "||") [] rest e refl in
    record { no_and = record { unseen = u.0; stays = u.1 }; unseen = v.0; stays = v.1 }

finished : (rest : List ℕ) → ahead rest ≡ 0 → finish Condition rest ≡ Ok (tt, rest)
unfolding finish
finished rest e = rw e refl

pub conditions_read : ConditionsAreRead
unfolding condition_of
conditions_read areas x tokens text w s few opening =
    let d = spelled_read tokens text s in
    let none = nothing_ahead d.rest d.end in
    let one : ltb 1000 (length text) ≡ false = grind (arith, nat_tests) in
    let two : ltb 32 (count_by (λ b. eqb b 40) text) ≡ false = grind (arith, nat_tests) in
    rw (one, two, written_read areas 32 x tokens text d.rest w d.read (at_end d.rest none.1), finished d.rest none.0) refl
