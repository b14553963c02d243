-- Options in another order are found by their names all the same.
use Rattle.std.proofs.Common.{◌≡◌, ◌∙◌, ℕ, zero, suc, ◌+◌, ◌<◌, ◌≤◌, List, [], ◌∷◌, ◌++◌, map, length, cond, Bool, true, false, ◌||◌, Option, Some, refl, ap, sym, subst, arith, get_or, append_assoc}
use Rattle.std.specs.List.{All, Contains, find, sum_by}
use Rattle.std.specs.List.Sorted.{IsPermutation}
use Rattle.std.specs.Str.{bytes_eq}
use Rattle.std.proofs.lemmas.List.{map-append}
use Rattle.std.proofs.lemmas.List.Elements.{All-head, All-tail}
use Rattle.std.proofs.lemmas.List.Sorted.{All-permutation, Contains-permutation, sum_by-IsPermutation}
use Rattle.std.proofs.lemmas.List.Sums.{sum_by-append}
use Rattle.clap.specs.Walk.{Row, Text, has_row}
use Rattle.word_laws.specs.Writing.{Named, Spelled, IsSpellable}
use Rattle.word_laws.proofs.Rules.{EachName, at_name, is_named, row}
use Rattle.word_laws.proofs.Walks.{Fits}

-- of each option
abbrev pub EachOption : (Named → Type 0) → List Named → Type 0
EachOption P [] = Unit {0}
EachOption P (o ∷ os) = P o × EachOption P os

pub all_options : (P : Named → Type 0) (os : List Named) → EachOption P os → All P os
all_options P [] each k d lt = absurd (omega arith)
all_options P (o ∷ os) each zero d lt = each.0
all_options P (o ∷ os) each (suc k) d lt = all_options P os each.1 k d (omega arith)

-- ---- the option that is found by a name

abbrev pub found_by : Text → List Named → Option Named
found_by name os = find (λ o. bytes_eq o.name name) os

-- no other option has its name
abbrev pub IsOnly : Named → Named → Type 0
IsOnly o other = bytes_eq other.name o.name ≡ true → other ≡ o

pub finds_only : (o : Named) (os : List Named) → All (IsOnly o) os → Contains os o → bytes_eq o.name o.name ≡ true → found_by o.name os ≡ Some o
finds_only o [] only has same = absurd (let lt : has.0 < 0 = has.1 in omega (arith, lt))
finds_only o (x ∷ os) only has same =
    by (λ more. finds_only o os (All-tail (IsOnly o) x os only) more same) (bytes_eq x.name o.name) refl has.0 has.1 has.2
  where
    by : (Contains os o → found_by o.name os ≡ Some o) → (b : Bool) → bytes_eq x.name o.name ≡ b → (k : ℕ) → k < length (x ∷ os) → get_or (x ∷ os) k o ≡ o →
        cond b (Some x) (found_by o.name os) ≡ Some o
    by others true e k lt at = ap (λ (y : Named). Some y) (All-head (IsOnly o) x os only e)
    by others false e zero lt at = absurd (let wrong : bytes_eq o.name o.name ≡ false = subst (λ (y : Named). bytes_eq y.name o.name ≡ false) at e in cc)
    by others false e (suc k) lt at = others (k, omega arith, at)

-- ---- no name twice

abbrev pub times : Text → List Named → ℕ
times name os = sum_by (λ o. cond (bytes_eq o.name name) 1 0) os

times_cons : (name : Text) (o : Named) (os : List Named) → times name (o ∷ os) ≡ cond (bytes_eq o.name name) 1 0 + times name os
times_cons name o os = let e = sum_by-append (λ (o : Named). cond (bytes_eq o.name name) 1 0) (o ∷ []) os in omega (arith, e)

pub row_counts : (name : Text) (os : List Named) → times name os ≡ 0 → has_row name (map row os) ≡ false
row_counts name [] none = refl
row_counts name (o ∷ os) none = by (λ e. row_counts name os e) (bytes_eq o.name name) (sym (times_cons name o os) ∙ none)
  where
    by : (times name os ≡ 0 → has_row name (map row os) ≡ false) → (b : Bool) → cond b 1 0 + times name os ≡ 0 → (b || has_row name (map row os)) ≡ false
    by others true e = absurd (omega (arith, e))
    by others false e = others (omega (arith, e))

module _ (names : List Text) where
  abbrev pub IsAmong : Named → Type 0
  IsAmong o = is_named names o.name ≡ true

  pub fits_behind : (before : List Named) (options : List Spelled) → All IsAmong (map (λ s. s.of) options) → All IsSpellable options →
      ((name : Text) → is_named names name ≡ true → times name (before ++ map (λ s. s.of) options) ≤ 1) → ((name : Text) → bytes_eq name name ≡ true) → Fits names (map row before) options
  fits_behind before [] among spellable once same = tt
  fits_behind before (s ∷ options) among spellable once same =
      let named = All-head IsAmong s.of (map (λ s. s.of) options) among in
      let count : times s.of.name (before ++ s.of ∷ map (λ s. s.of) options) ≤ 1 = once s.of.name named in
      let parts = sum_by-append (λ (o : Named). cond (bytes_eq o.name s.of.name) 1 0) before (s.of ∷ map (λ s. s.of) options) in
      let here : times s.of.name (s.of ∷ map (λ s. s.of) options) ≡ 1 + times s.of.name (map (λ s. s.of) options) =
      times_cons s.of.name s.of (map (λ s. s.of) options) ∙ ap (λ b. cond b 1 0 + times s.of.name (map (λ s. s.of) options)) (same s.of.name) in
      let none : times s.of.name before ≡ 0 = omega (arith, count, parts, here) in
      let rest = fits_behind (before ++ s.of ∷ []) options (All-tail IsAmong s.of (map (λ s. s.of) options) among) (All-tail IsSpellable s options spellable)
      (λ name n. subst (λ (os : List Named). times name os ≤ 1) (sym (append_assoc before (s.of ∷ []) (map (λ s. s.of) options))) (once name n)) same in (
        named,
        row_counts s.of.name before none,
        All-head IsSpellable s options spellable,
        subst (λ (rows : List Row). Fits names rows options) (map-append row before (s.of ∷ [])) rest,
      )

-- ---- the options of a command, in another order

pub record IsAsked (names : List Text) (wanted : List Named) : Type 0 where
  pub among : EachOption (IsAmong names) wanted
  pub once : EachName (λ name. times name wanted ≤ 1) names

pub fits : (names : List Text) (wanted : List Named) (options : List Spelled) → IsAsked names wanted → IsPermutation wanted (map (λ s. s.of) options) → All IsSpellable options →
    ((name : Text) → bytes_eq name name ≡ true) → Fits names [] options
fits names wanted options is order spellable same =
    fits_behind names [] options
    (All-permutation (IsAmong names) wanted (map (λ s. s.of) options) order (all_options (IsAmong names) wanted is.among))
    spellable
    (λ name named.
    let once = at_name (λ name. times name wanted ≤ 1) names name is.once named in
    let moved = sum_by-IsPermutation (λ (o : Named). cond (bytes_eq o.name name) 1 0) wanted (map (λ s. s.of) options) order in
    subst (λ n. n ≤ 1) (sym moved) once)
    same

pub found_in_order : (wanted os : List Named) (o : Named) → IsPermutation wanted os → EachOption (IsOnly o) wanted → Contains wanted o → bytes_eq o.name o.name ≡ true → found_by o.name os ≡ Some o
found_in_order wanted os o order only has same =
    finds_only o os (All-permutation (IsOnly o) wanted os order (all_options (IsOnly o) wanted only)) (Contains-permutation wanted os o order has) same
