-- Queries over the roads as they stand after a history.
use Rattle.std.specs.Prelude.{◌≡◌, ◌<◌, Option, None, List, length}
use Rattle.gh_base.specs.declared.query.RouteAnswer.{RouteAnswer}
use Rattle.model_eval.specs.Slowing.{offender}
use Rattle.landmark_prep.specs.Preparations.{Preparation}
use Rattle.traffic_core.specs.declared.entry.Entry.{Entry}
use Rattle.weighting.specs.Profiles.{profile_at}
use Rattle.traffic_core.specs.Lands.{Land}
use Rattle.gh_base.specs.Places.{IsPlace}
use Rattle.traffic_core.specs.History.{limit_after, IsGuide}
use Rattle.traffic_core.specs.Answers.{Asked, IsRightAnswer}

-- a route can be asked for: its profile is there, its points are of the earth, and its model has no offender under the profile
pub record CanAsk (land : Land) (asks : Asked) : Type 0 where
  pub profile : asks.profile < length land.profiles
  pub from : IsPlace asks.from
  pub to : IsPlace asks.to
  pub slow : offender (profile_at land.profiles asks.profile).model asks.model ≡ None

-- which answer is right after a history: that at the limits after it, guided by what stands in the profile's slot
abbrev pub IsRightAfter : Land → List Entry → Asked → RouteAnswer → Type 0
IsRightAfter land h asks answer =
    (prep : Option Preparation) × IsGuide land.graph h asks.profile prep × IsRightAnswer land (limit_after land.graph h) prep asks answer
