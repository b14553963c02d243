-- The preparation of the opening limits guides a search from tower to tower.
use Rattle.std.proofs.Common.{◌≡◌, ◌<◌, ◌≤◌, ltb, ℕ, Option, List, [], length, Contains, refl, sym, inl, inr, arith}
use Rattle.std.proofs.lemmas.Bool.{cases_Bool, lt-ltb}
use Rattle.std.proofs.lemmas.Bool.Decides.{nat_tests}
use Rattle.std.proofs.lemmas.List.{get_or_past}
use Rattle.std.proofs.lemmas.List.Elements.{Contains-append_left}
use Rattle.gh_base.specs.declared.edges.DirEdge.{DirEdge}
use Rattle.gh_base.specs.declared.edges.NodeId.{NodeId}
use Rattle.gh_base.specs.declared.edges.Hop.{Hop}
use Rattle.gh_base.specs.Networks.{Network, LeadsToNodes}
use Rattle.walk_rules.specs.Walks.{IsNoFaster, hops_from}
use Rattle.walk_rules.specs.Potentials.{IsFeasible, flat}
use Rattle.base_graph.specs.Graphs.{Graph, IsGraph, around_of}
use Rattle.weighting.specs.declared.weight_view.Side.TheVariants.{Out}
use Rattle.weighting.specs.Roads.{opening_of}
use Rattle.weighting.specs.RoadFacts.{leads_to_nodes, each_hop}
use Rattle.weighting.specs.SlowRoads.{AreNowhereAbove, NoHopIsFaster}
use Rattle.weighting.specs.Profiles.{profile_at}
use Rattle.query_graph.specs.declared.ends.Leave.{Leave}
use Rattle.query_graph.specs.declared.ends.Leave.TheVariants.{Node as FromNode}
use Rattle.query_graph.specs.declared.ends.Reach.TheVariants.{Node}
use Rattle.query_graph.specs.Ends.{target_in}
use Rattle.query_graph.specs.Joined.{joined}
use Rattle.landmark_prep.specs.Preparations.{Preparation, nodes_of}
use Rattle.landmark_prep.specs.Bounds.{AreFit}
use Rattle.landmark_prep.specs.Laws.{PreparationsFit, NodesAreLabelled}
use Rattle.traffic_core.specs.Lands.{Land, rule_alone}
use Rattle.traffic_core.specs.History.{limit_in}
use Rattle.traffic_core.specs.Truth.{IsPrepAt, network_at}
use Rattle.map_roads.specs.Opening.{opening_network}

-- what starts at a node starts at a tower
tower_of : (graph : Graph) (node : ℕ) (by : DirEdge) → IsGraph graph → Contains (around_of graph node) by → node < length graph.places
tower_of graph node by facts c = elim (cases_Bool (ltb node (length graph.places))) [
  | inl t ↦ grind (arith, nat_tests)
  | inr f ↦
      let late : length graph.around ≤ node = grind (arith, nat_tests, facts.lists) in
      let none : around_of graph node ≡ [] = get_or_past graph.around node [] late in
      absurd (let c' = rw none at c in omega (arith, c'.1))
]

-- a potential to a tower that is feasible with a start and a target more is feasible over the roads alone
module _ (network : Network) (bound : ℕ → Option ℕ) (leave : Leave) (to : NodeId) (direct : List (Option Hop)) where
  has : (node : ℕ) (hop : Hop) → node < network.nodes → Contains (hops_from network node) hop → Contains (hops_from (joined network leave (Node to) direct) node) hop
  has node hop there c = let t = lt-ltb node network.nodes there in rw t (Contains-append_left (network.hops node) [] hop c)

  alone_feasible : ((node : ℕ) (hop : Hop) → Contains (hops_from network node) hop → node < network.nodes)
      → IsFeasible (joined network leave (Node to) direct) bound to.0 → IsFeasible network bound to.0
  alone_feasible towers f = record { at_target = f.at_target; along = λ node hop c some. f.along node hop (has node hop (towers node hop c) c) some }

-- a bound of nothing is feasible
pub flat_feasible : (network : Network) (target : ℕ) → IsFeasible network flat target
flat_feasible network target = record { at_target = refl; along = λ node hop c s y e. (0, refl, omega arith) }

module _ (land : Land) (prep : Preparation) (count : ℕ) (at : IsPrepAt land [] 0 count prep) where
  pub labelled : NodesAreLabelled → nodes_of prep.labels ≡ length land.graph.places
  labelled nodes = nodes (network_at land 0 (limit_in prep.snapshot)) count prep at.is_prep

  above : AreNowhereAbove land.graph (opening_of land.graph) (limit_in prep.snapshot)
  above by there = let e : limit_in prep.snapshot by ≡ opening_of land.graph by = at.snapshot.each by in omega (arith, e)

  -- no hop is faster than at the limits of the preparation
  pub no_faster : IsGraph land.graph → NoHopIsFaster → IsNoFaster (network_at land 0 (limit_in prep.snapshot)) (opening_network land)
  no_faster facts falls = falls Out (rule_alone (profile_at land.profiles 0)) land.graph (opening_of land.graph) (limit_in prep.snapshot) tt facts above

  pub feasible_between : IsGraph land.graph → NodesAreLabelled → PreparationsFit → NoHopIsFaster → (to : NodeId) (bound : ℕ → Option ℕ)
      → ((base network : Network) (leave : Leave) (direct : List (Option Hop)) → AreFit base prep → IsNoFaster base network → LeadsToNodes network → network.nodes ≡ nodes_of prep.labels
      → IsFeasible (joined network leave (Node to) direct) bound (target_in network (Node to)))
      → IsFeasible (opening_network land) bound to.0
  feasible_between facts nodes fits falls to bound feasible =
      let rule = rule_alone (profile_at land.profiles 0) in
      let limits = opening_of land.graph in
      let base = network_at land 0 (limit_in prep.snapshot) in
      let fit = fits base count prep at.is_prep in
      alone_feasible (opening_network land) bound (FromNode to) to []
      (λ node hop c. each_hop Out rule limits land.graph node (λ (h : Hop). node < length land.graph.places) (λ by b. tower_of land.graph node by facts b) hop c)
      (feasible base (opening_network land) (FromNode to) [] fit (no_faster facts falls)
      (leads_to_nodes Out rule limits land.graph facts) (sym (labelled nodes)))
