-- What a query for a route brings to a search, and what its answer says of a history.
use Rattle.std.specs.Option.{IfSome}
use Rattle.std.proofs.Math.Path.{fun_ext}
use Rattle.std.proofs.Common.{◌≡◌, ℕ, Bor, Option, Some, None, List, subst, sym}
use Rattle.gh_base.specs.declared.edges.DirEdge.{DirEdge}
use Rattle.gh_base.specs.declared.query.RouteAnswer.{RouteAnswer}
use Rattle.weighting.specs.SlowRoads.{AreNowhereAbove}
use Rattle.landmark_prep.specs.Preparations.{Preparation}
use Rattle.landmark_prep.specs.Laws.{NodesAreLabelled}
use Rattle.traffic_core.specs.declared.entry.Entry.{Entry}
use Rattle.traffic_core.specs.Lands.{Land}
use Rattle.traffic_core.specs.History.{limit_in, AreLimitsAfter, IsGuide}
use Rattle.traffic_core.specs.Truth.{IsTrueOver, CanGuide, network_at}
use Rattle.traffic_core.specs.Answers.{Asked, IsRightAnswer}
use Rattle.traffic_core.specs.Queries.{IsRightAfter}

-- a true preparation of the profile that covers the limits can guide
pub can_guide : (land ground : Land) (limits : DirEdge → ℕ) (profile : ℕ) (prep : Option (Bor Preparation)) → ground ≡ land → NodesAreLabelled
    → IfSome prep (λ p. IsTrueOver land p.now) → IfSome prep (λ p. AreNowhereAbove land.graph limits (limit_in p.now.snapshot)) → IfSome prep (λ p. p.now.profile ≡ profile)
    → IfSome prep (λ p. CanGuide ground limits profile p.now)
can_guide land ground limits profile None same labelled truth covers of_profile = tt
can_guide land ground limits profile (Some p) same labelled truth covers of_profile =
    subst (λ (g : Land). CanGuide g limits profile p.now) (sym same)
    (record { of_profile = of_profile; long = truth.long; nodes = labelled (network_at land p.now.profile (limit_in p.now.snapshot)) _ p.now truth.is_prep; above = covers })

-- what is right at the limits of a state is right after each history that it stands for
pub right_after : (land : Land) (h : List Entry) (limits : List ℕ) (asks : Asked) (prep : Option Preparation) (answer : RouteAnswer) → AreLimitsAfter land.graph h limits → IsGuide land.graph h asks.profile prep
    → IsRightAnswer land (limit_in limits) prep asks answer → IsRightAfter land h asks answer
right_after land h limits asks prep answer are guide right = (prep, guide, subst (λ (f : DirEdge → ℕ). IsRightAnswer land f prep asks answer) (fun_ext are.each) right)
