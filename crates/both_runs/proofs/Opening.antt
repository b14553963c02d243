-- The bounds of a preparation at the opening limits, ahead to the one tower and behind from the other.
use Rattle.std.proofs.Common.{◌≡◌, ℕ, Option, Some, Result, Ok, Err, IfOk, List, [], length, sym, subst, ap, ◌∙◌}
use Rattle.gh_base.specs.Networks.{Network, LeadsToNodes}
use Rattle.gh_base.specs.declared.edges.NodeId.{NodeId}
use Rattle.walk_rules.specs.Walks.{IsNoFaster}
use Rattle.walk_rules.specs.Potentials.{IsFeasible}
use Rattle.walk_rules.specs.Turned.{IsTurned}
use Rattle.base_graph.specs.Graphs.{IsGraph}
use Rattle.weighting.specs.declared.weight_view.Side.TheVariants.{Back}
use Rattle.weighting.specs.Profiles.{profile_at}
use Rattle.weighting.specs.Roads.{opening_of}
use Rattle.weighting.specs.RoadFacts.{leads_to_nodes}
use Rattle.weighting.specs.SlowRoads.{NoHopIsFaster, SidesTurnAlongEdges}
use Rattle.landmark_prep.specs.Preparations.{Preparation, nodes_of}
use Rattle.landmark_prep.specs.Bounds.{AreFit, picked}
use Rattle.landmark_prep.specs.Laws.{PreparationsFit, NodesAreLabelled, ActiveLandmarksAreOne}
use Rattle.traffic_core.specs.Lands.{Land, rule_alone}
use Rattle.traffic_core.specs.History.{limit_in}
use Rattle.traffic_core.specs.Truth.{network_at, IsPrepAt}
use Rattle.two_way_search.specs.Behind.{behind_of}
use Rattle.map_roads.specs.Opening.{opening_network, IsBoundBetween}
use Rattle.map_roads.proofs.Guiding.{labelled, no_faster}
use Rattle.both_runs.specs.declared.answer.BothAnswer.{BothAnswer}
use Rattle.both_runs.specs.Guided.{opening_back, Guided, AreActiveBetween, AreBounds}
use Rattle.both_runs.specs.Lines.{IsRightBy, IsRightBetween}

module _ (land : Land) (prep : Preparation) (count : ℕ) (at : IsPrepAt land [] 0 count prep) where
  pub behind_feasible : IsGraph land.graph → PreparationsFit → NodesAreLabelled → NoHopIsFaster → SidesTurnAlongEdges → (bound : ℕ → Option ℕ) (from : ℕ)
      → ((base network back : Network) → AreFit base prep → IsNoFaster base network → IsTurned network back → LeadsToNodes back → back.nodes ≡ nodes_of prep.labels → IsFeasible back bound from)
      → IsFeasible (opening_back land) bound from
  behind_feasible facts fits each falls turn bound from feasible =
      let rule = rule_alone (profile_at land.profiles 0) in
      let base = network_at land 0 (limit_in prep.snapshot) in
      feasible base (opening_network land) (opening_back land)
      (fits base count prep at.is_prep)
      (no_faster land prep count at facts falls)
      (turn rule (opening_of land.graph) land.graph facts)
      (leads_to_nodes Back rule (opening_of land.graph) land.graph facts)
      (sym (labelled land prep count at each))

  -- both pick the same landmarks
  pub bounds_of : NodesAreLabelled → ActiveLandmarksAreOne → (ahead behind : ℕ → Option ℕ) (from to : NodeId) (other : List ℕ)
      → IsBoundBetween land from to (Some prep) ahead → AreActiveBetween prep from.0 to.0 other → behind ≡ behind_of (picked prep.labels other) from.0 (nodes_of prep.labels)
      → AreBounds land (Some prep) from.0 to.0 ahead behind
  bounds_of each are_one ahead behind from to other bound active is =
      let same : other ≡ bound.0 = are_one _ (length prep.landmarks) other bound.0 active bound.1 in (
        bound.0,
        bound.1,
        bound.2,
        is ∙ ap (λ (a : List ℕ). behind_of (picked prep.labels a) from.0 (nodes_of prep.labels)) same
            ∙ ap (behind_of (picked prep.labels bound.0) from.0) (labelled land prep count at each),
      )

-- an answer that is right by the bounds of what guides the search, where that is seen
pub right_between : {E : Type 0} (seen : Guided) (land : Land) (guide own : Option Preparation) → record { land = land; guide = guide } ≡ seen → guide ≡ own
    → (from to : ℕ) (ahead behind : ℕ → Option ℕ) → AreBounds land own from to ahead behind
    → (result : Result BothAnswer E) → IfOk result (IsRightBy land ahead behind from to) → IfOk result (IsRightBetween seen.land seen.guide from to)
right_between seen land guide own view_is guide_is from to ahead behind bounds (Err e) right = tt
right_between seen land guide own view_is guide_is from to ahead behind bounds (Ok answer) right =
    subst (λ (v : Guided). IsRightBetween v.land v.guide from to answer) view_is
    (subst (λ (g : Option Preparation). IsRightBetween land g from to answer) (sym guide_is) (record { ahead = ahead; behind = behind; bounds = bounds; right = right }))
