-- How conditions group, by texts and what they are (GraphHopper documentation, "Custom models", conditions).
use Rattle.std.specs.Prelude.{ℕ, List, [], ◌∷◌, codes}
use Rattle.model_eval.specs.declared.conditions.Test.{Test}
use Rattle.model_eval.specs.declared.conditions.Test.TheVariants.{True, False, Not, And, Or}

abbrev pub groups : List (List ℕ × Test)
groups =
    (codes "true || false && true", Or (True ∷ And (False ∷ True ∷ []) ∷ [])) ∷
    (codes "true && false || true", Or (And (True ∷ False ∷ []) ∷ True ∷ [])) ∷
    (codes "!true&&false", And (Not True ∷ False ∷ [])) ∷
    (codes "!(true && false)", Not (And (True ∷ False ∷ []))) ∷
    (codes "true && false && true", And (True ∷ False ∷ True ∷ [])) ∷
    (codes "(true && false) && true", And (And (True ∷ False ∷ []) ∷ True ∷ [])) ∷
    (codes "(true || false) && !!true", And (Or (True ∷ False ∷ []) ∷ Not (Not True) ∷ [])) ∷
    (codes "((true))", True) ∷ []
