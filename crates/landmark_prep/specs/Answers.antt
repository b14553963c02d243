-- What making a preparation answers.
use Rattle.std.specs.Prelude.{⊤}
use Rattle.landmark_prep.specs.declared.making.Made.{Made}
use Rattle.landmark_prep.specs.declared.making.Made.TheVariants.{Prep, NoLandmark}
use Rattle.landmark_prep.specs.Preparations.{Preparation}

-- a fact of the preparation, if there is one
abbrev pub IfPrep : Made → (Preparation → Type 0) → Type 0
IfPrep (Prep prep) P = P prep
IfPrep NoLandmark P = ⊤

abbrev pub IsNoLandmark : Made → Type 0
IsNoLandmark (Prep prep) = ⊥
IsNoLandmark NoLandmark = ⊤
