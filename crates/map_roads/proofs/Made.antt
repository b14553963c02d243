-- What is made of the roads at the opening limits.
use Rattle.std.proofs.Common.{ℕ, ◌<◌, []}
use Rattle.std.specs.Prelude.{length}
use Rattle.landmark_prep.specs.declared.making.Made.{Made}
use Rattle.landmark_prep.specs.declared.making.Made.TheVariants.{Prep, NoLandmark}
use Rattle.landmark_prep.specs.Answers.{IfPrep, IsNoLandmark}
use Rattle.landmark_prep.specs.Laws.{LandmarksAreTheCount}
use Rattle.traffic_core.specs.Lands.{Land}
use Rattle.traffic_core.specs.Truth.{IsPrepAt, IsNoPrepAt, IsTrueOver}
use Rattle.traffic_share.proofs.PreparationsAfter.{true_after}
use Rattle.map_roads.specs.Opening.{guide_of, IsGuideOf}

-- a preparation before any entry is true over the roads
pub true_made : (made : Made) (land : Land) (count : ℕ) → LandmarksAreTheCount → 0 < length land.profiles → IfPrep made (λ prep. IsPrepAt land [] 0 count prep) → IfPrep made (λ prep. IsTrueOver land prep)
true_made (Prep prep) land count counted there at = true_after land [] 0 count prep counted there at
true_made NoLandmark land count counted there at = tt

-- it guides, and where none could be made, nothing does
pub guide_made : (made : Made) (land : Land) (count : ℕ) → IfPrep made (λ prep. IsPrepAt land [] 0 count prep) → (IsNoLandmark made → IsNoPrepAt land [] 0) → IsGuideOf land count (guide_of made)
guide_made (Prep prep) land count at none = at
guide_made NoLandmark land count at none = none tt
