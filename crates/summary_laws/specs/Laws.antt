-- Laws of summaries, each a statement of its own. What is written of a size doesn't depend on how
-- its threads ran.
use Rattle.std.specs.Prelude.{◌≡◌, ◌≤◌, ℕ}
use Rattle.generated_run.specs.Generating.{IsRunOf}
use Rattle.generated_run.specs.declared.summing.Summary.{Summary}

-- a size has one summary
abbrev pub OneSummary : Type 0
OneSummary = (size : ℕ) (one other : Summary) → 2 ≤ size → size ≤ 300 →
    IsRunOf size one → IsRunOf size other → one ≡ other

-- the preparation has all the landmarks that are asked for
abbrev pub FourLandmarks : Type 0
FourLandmarks = (size : ℕ) (summary : Summary) → 2 ≤ size → size ≤ 300 →
    IsRunOf size summary → summary.landmarks ≡ 4

-- each query is answered with a walk
abbrev pub SixteenRoutes : Type 0
SixteenRoutes = (size : ℕ) (summary : Summary) → 2 ≤ size → size ≤ 300 →
    IsRunOf size summary → summary.routes ≡ 16
