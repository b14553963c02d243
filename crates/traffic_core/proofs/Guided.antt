-- A true preparation guides a search over the roads of a trip.
use Rattle.std.proofs.Common.{◌≡◌, ℕ, Option, Some, List, length, sym, subst, ap, ◌∙◌}
use Rattle.gh_base.specs.declared.edges.DirEdge.{DirEdge}
use Rattle.gh_base.specs.declared.edges.Hop.{Hop}
use Rattle.gh_base.specs.Networks.{Network, LeadsToNodes}
use Rattle.walk_rules.specs.Walks.{IsNoFaster}
use Rattle.walk_rules.specs.Potentials.{IsFeasible}
use Rattle.base_graph.specs.Graphs.{Graph, IsGraph}
use Rattle.query_graph.specs.declared.ends.Leave.{Leave}
use Rattle.query_graph.specs.declared.ends.Reach.{Reach}
use Rattle.query_graph.specs.Ends.{target_in}
use Rattle.query_graph.specs.Joined.{joined}
use Rattle.weighting.specs.declared.weight_view.Side.TheVariants.{Out}
use Rattle.weighting.specs.Rules.{Rule, alone}
use Rattle.weighting.specs.Roads.{network_by}
use Rattle.weighting.specs.RoadFacts.{leads_to_nodes}
use Rattle.weighting.specs.SlowRoads.{IsSlowing, AreNowhereAbove, NoHopIsFaster}
use Rattle.landmark_prep.specs.Preparations.{Preparation, nodes_of}
use Rattle.landmark_prep.specs.Bounds.{AreFit, bound_of, labels_at, picked, potential_of}
use Rattle.landmark_prep.specs.Choosing.{AreActive}
use Rattle.landmark_prep.specs.Laws.{PreparationsFit}
use Rattle.traffic_core.specs.declared.spot.Spot.{Spot}
use Rattle.weighting.specs.Profiles.{profile_at}
use Rattle.traffic_core.specs.Lands.{Land, rule_alone}
use Rattle.traffic_core.specs.History.{limit_in}
use Rattle.traffic_core.specs.Trips.{Trip, trip_by, trip_network, trip_target, leave_from, reach_to, direct_between}
use Rattle.traffic_core.specs.Truth.{IsTrueOver, IsBoundOf, representative, network_at}

module _ (land : Land) (graph : Graph) (same : graph ≡ land.graph) (prep : Preparation) (nodes : nodes_of prep.labels ≡ length land.graph.places) (goal : Reach) (bound : ℕ → Option ℕ) where
  pub bound_between : (trip : Trip) (from to : Spot) (first last : ℕ) (active : List ℕ) → goal ≡ trip.to → first ≡ representative graph from → last ≡ representative graph to
      → AreActive (λ place. bound_of (labels_at prep.labels place) first last) (length prep.landmarks) active
      → bound ≡ potential_of (picked prep.labels active) goal (nodes_of prep.labels)
      → IsBoundOf land trip from to (Some prep) bound
  bound_between trip from to first last active leads begin end are is =
      let start : first ≡ representative land.graph from = begin ∙ ap (λ (g : Graph). representative g from) same in
      let target : last ≡ representative land.graph to = end ∙ ap (λ (g : Graph). representative g to) same in (
        active,
        subst (λ (n : ℕ). AreActive (λ place. bound_of (labels_at prep.labels place) n (representative land.graph to)) (length prep.landmarks) active) start
            (subst (λ (n : ℕ). AreActive (λ place. bound_of (labels_at prep.labels place) first n) (length prep.landmarks) active) target are),
        is ∙ ap (λ (r : Reach). potential_of (picked prep.labels active) r (nodes_of prep.labels)) leads ∙ ap (potential_of (picked prep.labels active) trip.to) nodes,
      )

  module _ (facts : IsGraph graph) (rule : Rule) (limits : DirEdge → ℕ) (slow : IsSlowing rule) (profile : alone rule ≡ rule_alone (profile_at land.profiles prep.profile)) (above : AreNowhereAbove land.graph limits (limit_in prep.snapshot)) where
    -- no hop is faster than it was at the snapshot under the profile alone
    no_faster : NoHopIsFaster → IsNoFaster (network_at land prep.profile (limit_in prep.snapshot)) (network_by rule limits graph)
    no_faster falls =
        let earlier = limit_in prep.snapshot in
        let here : AreNowhereAbove graph limits earlier = subst (λ (g : Graph). AreNowhereAbove g limits earlier) (sym same) above in
        subst (λ (g : Graph). IsNoFaster (network_by (rule_alone (profile_at land.profiles prep.profile)) earlier g) (network_by rule limits graph)) same
        (subst (λ (r : Rule). IsNoFaster (network_by r earlier graph) (network_by rule limits graph)) profile (falls Out rule graph limits earlier slow facts here))

    pub feasible_between : (from to : Spot) → goal ≡ reach_to rule limits graph to → PreparationsFit → NoHopIsFaster
        → ((base network : Network) (leave : Leave) (direct : List (Option Hop)) → AreFit base prep → IsNoFaster base network → LeadsToNodes network → network.nodes ≡ nodes_of prep.labels
        → IsFeasible (joined network leave goal direct) bound (target_in network goal))
        → IsTrueOver land prep → IsFeasible (trip_network (trip_by rule limits graph from to)) bound (trip_target (trip_by rule limits graph from to))
    feasible_between from to leads fits falls feasible true_over =
        let network = network_by rule limits graph in
        let leave = leave_from rule limits graph from in
        let direct = direct_between rule limits graph from to in
        let fit = fits (network_at land prep.profile (limit_in prep.snapshot)) (length prep.landmarks) prep true_over.is_prep in
        let count : length graph.places ≡ nodes_of prep.labels = ap (λ (g : Graph). length g.places) same ∙ sym nodes in
        subst (λ (r : Reach). IsFeasible (joined network leave r direct) bound (target_in network r)) leads
        (feasible (network_at land prep.profile (limit_in prep.snapshot)) network leave direct fit (no_faster falls) (leads_to_nodes Out rule limits graph facts) count)
