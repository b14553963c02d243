-- Places of a list of options.
use Rattle.std.proofs.Common.{◌≡◌, ℕ, ◌<◌, Option, Some, None, List, length, sym, ◌∙◌, ap, length-set, inl, inr, arith}
use Rattle.std.specs.Prelude.{slice_index_or, slice_set}
use Rattle.std.proofs.lemmas.List.{get_or_past, get_or-set_same, get_or-set_other}
use Rattle.std.proofs.lemmas.Bool.{cases_lt, cases_eq}
use Rattle.walk_rules.proofs.Options.{some_or_none}

-- where something stands is within the list
pub within : {A : Type 0} (xs : List (Option A)) (i : ℕ) (x : A) → slice_index_or xs i None ≡ Some x → i < length xs
within xs i x e =
    elim (cases_lt i (length xs)) [ inl lt ↦ lt | inr le ↦ absurd (let p = get_or_past xs i None le in cc) ]

-- a place that was emptied
pub emptied : {A : Type 0} (xs : List (Option A)) (i : ℕ) → slice_index_or (slice_set xs i None) i None ≡ None
emptied xs i =
    elim (some_or_none (slice_index_or (slice_set xs i None) i None)) [
      | inl h ↦ absurd (let lt : i < length xs = omega (arith, within (slice_set xs i None) i h.0 h.1, length-set xs i None) in let p = get_or-set_same xs i None None lt in cc)
      | inr e ↦ e
    ]

-- what stands somewhere after it stood there before
pub before_emptied : {A : Type 0} (xs : List (Option A)) (i j : ℕ) (x : A) → slice_index_or (slice_set xs i None) j None ≡ Some x → (j ≡ i → ⊥) × (slice_index_or xs j None ≡ Some x)
before_emptied xs i j x e =
    elim (cases_eq j i) [
      | inl s ↦ absurd (let p = emptied xs i in let q = ap (λ k. slice_index_or (slice_set xs i None) k None) s in cc)
      | inr ne ↦ (ne, sym (get_or-set_other xs i j None None ne) ∙ e)
    ]

-- what is empty stays so
pub after_emptied : {A : Type 0} (xs : List (Option A)) (i j : ℕ) → slice_index_or xs j None ≡ None → slice_index_or (slice_set xs i None) j None ≡ None
after_emptied xs i j e =
    elim (cases_eq j i) [
      | inl s ↦ ap (λ k. slice_index_or (slice_set xs i None) k None) s ∙ emptied xs i
      | inr ne ↦ get_or-set_other xs i j None None ne ∙ e
    ]
