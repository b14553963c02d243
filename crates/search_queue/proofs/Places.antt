-- Places of a list of options.
use Rattle.std.proofs.Common.{◌≡◌, ℕ, ◌<◌, Option, Some, None, List, length, inl, inr}
use Rattle.std.specs.Prelude.{slice_index_or}
use Rattle.std.proofs.lemmas.List.{get_or_past}
use Rattle.std.proofs.lemmas.Bool.{cases_lt}

-- where something stands is within the list
pub within : {A : Type 0} (xs : List (Option A)) (i : ℕ) (x : A) → slice_index_or xs i None ≡ Some x → i < length xs
within xs i x e =
    elim (cases_lt i (length xs)) [ inl lt ↦ lt | inr le ↦ absurd (let p = get_or_past xs i None le in cc) ]
