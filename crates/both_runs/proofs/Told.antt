-- A text that answers query lines over roads of cars that were read.
use Rattle.std.proofs.Common.{◌≡◌, ℕ, List, Option, subst}
use Rattle.gh_base.specs.declared.kinds.Form.{Form}
use Rattle.landmark_prep.specs.Preparations.{Preparation}
use Rattle.traffic_core.specs.Lands.{Land}
use Rattle.map_roads.specs.Cars.{AreCarsIn}
use Rattle.map_roads.specs.Opening.{IsGuideOf}
use Rattle.map_roads.proofs.Counted.{of_cars}
use Rattle.query_lines.specs.Answering.{IsAnswered}
use Rattle.both_runs.specs.Guided.{Guided}
use Rattle.both_runs.specs.Lines.{IsRightLine}
use Rattle.both_runs.specs.Runs.{IsBothText, IsBothTextOver}

pub both_text : (form : Form) (count : ℕ) (land : Land) (guide : Option Preparation) → IsGuideOf land count guide → (ends : Guided) → ends ≡ record { land = land; guide = guide }
    → (held bytes text : List ℕ) → AreCarsIn form held land → IsAnswered (IsRightLine ends.land ends.guide) bytes text → IsBothText form held count bytes text
both_text form count land guide guides ends ends_are held bytes text cars answers =
    of_cars (IsBothTextOver count bytes text) cars
    (record { guide = guide; guides = guides; answers = subst (λ (e : Guided). IsAnswered (IsRightLine e.land e.guide) bytes text) ends_are answers })
