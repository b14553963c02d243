-- Conditions that name only areas that are there.
use Rattle.std.proofs.Common.{◌≡◌, ◌∙◌, ℕ, zero, suc, Bool, true, false, List, [], ◌∷◌, ◌++◌, map, refl, ap, sym}
use Rattle.std.specs.Prelude.{IsTrue}
use Rattle.model_eval.specs.declared.conditions.Test.{Test}
use Rattle.model_eval.specs.declared.conditions.Test.TheVariants as t
use Rattle.model_eval.specs.declared.conditions.Test.TheOpen.{Test-F}
use Rattle.model_eval.specs.declared.conditions.Test.TheFolds.{fold-roll-Test}
use Rattle.model_eval.specs.Conditions.{all_true, named_step, names_areas_of}
use Rattle.model_texts.specs.Conditions.{nots}

all_more : (bs : List Bool) (b : Bool) → IsTrue (all_true bs) → IsTrue b → IsTrue (all_true (bs ++ b ∷ []))
all_more [] true h k = refl
all_more [] false h k = k
all_more (true ∷ bs) b h k = all_more bs b h k
all_more (false ∷ bs) b h k = h

map_more : {A : Type 0} (f : A → Bool) (xs : List A) (x : A) → map f (xs ++ x ∷ []) ≡ map f xs ++ f x ∷ []
map_more f [] x = refl
map_more f (y ∷ xs) x = rw (map_more f xs x) refl

-- a part more
pub one_named : {A : Type 0} (f : A → Bool) (xs : List A) (x : A) → IsTrue (all_true (map f xs)) → IsTrue (f x) → IsTrue (all_true (map f (xs ++ x ∷ [])))
one_named f xs x h k = rw (map_more f xs x) (all_more (map f xs) (f x) h k)

not_named : (count : ℕ) (x : Test) → names_areas_of count (t.Not x) ≡ names_areas_of count x
not_named count x = ap (names_areas_of count) (sym (t.rolls-Not x)) ∙ fold-roll-Test Bool (named_step count) (Test-F.Not x)

pub nots_named : (count n : ℕ) (x : Test) → IsTrue (names_areas_of count x) → IsTrue (names_areas_of count (nots n x))
nots_named count zero x h = h
nots_named count (suc n) x h = rw (not_named count (nots n x)) (nots_named count n x h)
