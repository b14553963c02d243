-- What answers query lines over the map of a name, where both ends search.
use Rattle.std.specs.Prelude.{ℕ, List, Option}
use Rattle.gh_base.specs.declared.kinds.Form.{Form}
use Rattle.landmark_prep.specs.Preparations.{Preparation}
use Rattle.traffic_core.specs.Lands.{Land}
use Rattle.map_roads.specs.Cars.{OfCars}
use Rattle.map_roads.specs.Opening.{IsGuideOf}
use Rattle.query_lines.specs.Answering.{IsAnswered}
use Rattle.both_runs.specs.Lines.{IsRightLine}

-- a text answers the queries that bytes are, guided by the preparation of the roads with at most so many landmarks, or by nothing where no road can be used
pub record IsBothTextOver (count : ℕ) (bytes text : List ℕ) (land : Land) : Type 0 where
  pub guide : Option Preparation
  pub guides : IsGuideOf land count guide
  pub answers : IsAnswered (IsRightLine land guide) bytes text

-- over the roads of cars of the map that bytes are in a form
abbrev pub IsBothText : Form → List ℕ → ℕ → List ℕ → List ℕ → Type 0
IsBothText form held count bytes text = OfCars (IsBothTextOver count bytes text) form held
