-- What a search by states finds is the right reply between two towers.
use Rattle.std.proofs.Common.{◌≡◌, ◌≢◌, ◌↔◌, ℕ, ℤ, Option, None, Result, Ok, Err, List, [], IfOk, refl, sym, subst, ap, ◌∙◌, inl, inr, arith}
use Rattle.std.proofs.lemmas.Bool.{cases_Bool, cases_eq}
use Rattle.std.proofs.lemmas.Bool.Decides.{nat_tests}
use Rattle.std.specs.Prelude.{nat_lt}
use Rattle.gh_base.specs.declared.faults.NoMemory.{NoMemory}
use Rattle.gh_base.specs.declared.edges.NodeId.{NodeId}
use Rattle.gh_base.specs.declared.edges.DirEdge.{DirEdge}
use Rattle.gh_base.specs.declared.edges.Hop.{Hop}
use Rattle.gh_base.specs.Networks.{Network}
use Rattle.walk_rules.specs.Walks.{IsWalk, weight_of}
use Rattle.walk_rules.specs.Potentials.{IsFeasible}
use Rattle.walk_rules.specs.Starts.{StartsWithin, StartsAtAll}
use Rattle.base_graph.specs.Graphs.{Graph, IsGraph}
use Rattle.weighting.specs.declared.weight_view.Side.TheVariants.{Out}
use Rattle.weighting.specs.declared.profile.Profile.{Profile}
use Rattle.weighting.specs.Rules.{Rule, rule_of}
use Rattle.weighting.specs.Profiles.{profile_at}
use Rattle.weighting.specs.Roads.{AreOver, network_by, opening_of}
use Rattle.weighting.specs.RoadFacts.{walk_over}
use Rattle.alt_search.specs.declared.finding.Found.{Found}
use Rattle.alt_search.specs.declared.finding.Found.TheVariants as found
use Rattle.alt_search.specs.Findings.{IfWalk, IfNoWalk, IsNoWalk, settled_of}
use Rattle.turn_graph.specs.declared.turn.Turn.{Turn}
use Rattle.turn_graph.specs.Restrictions.{Streets}
use Rattle.turn_graph.specs.Tables.{Table, IsTableOf, streets_for}
use Rattle.turn_graph.specs.TurnWalks.{IsTurnWalk, IsAtMostEachTurnWalk, NoTurnWalk}
use Rattle.turn_graph.specs.States.{by_states, trip_by, start_in, target_in}
use Rattle.turn_graph.specs.Bounds.{bound_by}
use Rattle.landmark_prep.specs.Preparations.{Preparation}
use Rattle.traffic_core.specs.Lands.{Land}
use Rattle.traffic_core.specs.Answers.{greatest_weight}
use Rattle.traffic_share.proofs.PreparationsAfter.{network_is}
use Rattle.script_text.specs.declared.reply.Reply.{Reply}
use Rattle.script_text.specs.declared.reply.Reply.TheVariants as reply
use Rattle.map_roads.specs.Opening.{opening_network, IsBoundBetween}
use Rattle.turn_runs.specs.Lines.{TurnRoads, streets_of, IsLeastRoute, IsRightBy, IsRightHere, IsRightTo}
use Rattle.turn_runs.specs.Sound.{reply_of}

-- the hops of a turn walk that was found are over edges
pub hops_over : (rule : Rule) (limits : DirEdge → ℕ) (graph : Graph) → IsGraph graph → (network : Network) → network ≡ network_by rule limits graph → (streets : Streets) (turns : List Turn) (from to : ℕ)
    → (found : Found) → IfWalk found (λ hops weight _. IsTurnWalk network streets turns from hops to × (weight_of hops ≡ weight)) → IfWalk found (λ hops _ _. AreOver graph hops)
hops_over rule limits graph facts network same streets turns from to (found.Walk hops weight settled) walk =
    walk_over Out rule limits graph facts from to hops (subst (λ (n : Network). IsWalk n from hops to) same walk.0.walk)
hops_over rule limits graph facts network same streets turns from to (found.NoWalk settled) walk = tt

-- what a search says of what it found over a network and a graph, where a bound looks ahead
pub record SearchSays (ids : List ℤ) (turns : List Turn) (table : Table) (bound : ℕ → Option ℕ) (from to : ℕ) (found : Found) (network : Network) (graph : Graph) : Type 0 where
  pub walk : IsTableOf (streets_for graph ids table) turns table →
      IfWalk found (λ hops weight _. IsTurnWalk network (streets_for graph ids table) turns from hops to × (weight_of hops ≡ weight))
  pub least : IsTableOf (streets_for graph ids table) turns table → IsFeasible network bound to →
      IfWalk found (λ _ weight _. IsAtMostEachTurnWalk network (streets_for graph ids table) turns from to weight)
  pub none : IsTableOf (streets_for graph ids table) turns table → IsFeasible network bound to →
      IsNoWalk found ↔ NoTurnWalk network (streets_for graph ids table) turns from to
  pub within : from ≢ to → IsFeasible network bound to →
      IfWalk found (λ _ weight settled. StartsWithin (by_states (trip_by network graph table from to)) (bound_by bound graph from) (start_in graph) (target_in graph) weight settled)
  pub all : from ≢ to → IsFeasible network bound to →
      IfNoWalk found (λ settled. StartsAtAll (by_states (trip_by network graph table from to)) (bound_by bound graph from) (start_in graph) (target_in graph) settled)
  pub here : from ≡ to → settled_of found ≡ 0
  pub empty : from ≡ to → IfWalk found (λ hops _ _. hops ≡ [])

-- the same of the network and the graph that these are
pub says_over : (ids : List ℤ) (turns : List Turn) (table : Table) (bound : ℕ → Option ℕ) (from to : ℕ) (found : Found) (network same : Network) (graph itself : Graph)
    → network ≡ same → graph ≡ itself → SearchSays ids turns table bound from to found network graph → SearchSays ids turns table bound from to found same itself
says_over ids turns table bound from to found network same graph itself e f says =
    subst (λ (g : Graph). SearchSays ids turns table bound from to found same g) f
    (subst (λ (n : Network). SearchSays ids turns table bound from to found n graph) e says)

-- roads as the first profile alone weighs them at the limits that they open with
pub search_over : (roads : TurnRoads) (own : Profile) (rule : Rule) (seen : DirEdge → ℕ) (graph : Graph) (network : Network) (bound : ℕ → Option ℕ) (from to : ℕ) (found : Found)
    → network ≡ network_by rule seen graph → rule ≡ rule_of own None → own ≡ profile_at roads.land.profiles 0 → seen ≡ opening_of graph → graph ≡ roads.land.graph
    → SearchSays roads.land.ids roads.turns roads.table bound from to found network graph
    → SearchSays roads.land.ids roads.turns roads.table bound from to found (opening_network roads.land) roads.land.graph
search_over roads own rule seen graph network bound from to found is rule_is own_is limits_are graph_is says =
    says_over roads.land.ids roads.turns roads.table bound from to found network (opening_network roads.land) graph roads.land.graph
    (network_is roads.land 0 own rule seen (opening_of roads.land.graph) graph network is rule_is own_is (limits_are ∙ ap opening_of graph_is) graph_is) graph_is says

module _ (roads : TurnRoads) (is : IsTableOf (streets_of roads) roads.turns roads.table) (bound : ℕ → Option ℕ) (from to : ℕ) where
  abbrev Says : Found → Type 0
  Says found = SearchSays roads.land.ids roads.turns roads.table bound from to found (opening_network roads.land) roads.land.graph

  -- where the bound is feasible, what it comes to is right
  pub right_reply : IsFeasible (opening_network roads.land) bound to → from ≢ to → (found : Found) → Says found → IsRightBy roads bound from to (reply_of roads.land.graph found)
  right_reply feasible apart (found.NoWalk settled) says = ((says.none is feasible).0 tt, says.all apart feasible)
  right_reply feasible apart (found.Walk hops weight settled) says =
      let walk = says.walk is in
      let least : IsLeastRoute roads from to hops weight = record { route = walk.0; weight_is = walk.1; least = says.least is feasible } in
      elim (cases_Bool (nat_lt greatest_weight weight)) [
        | inl t ↦ rw t (record { hops = hops; least = least; over = grind (arith, nat_tests) })
        | inr f ↦ rw f (record { least = least; within = grind (arith, nat_tests); mm_is = refl; starts = says.within apart feasible })
      ]

  -- from a tower to itself it is a walk of no hops
  pub here_reply : IsFeasible (opening_network roads.land) bound to → from ≡ to → (found : Found) → Says found → reply_of roads.land.graph found ≡ reply.Route 0 0 0 []
  here_reply feasible here (found.NoWalk settled) says = absurd ((says.none is feasible).0 tt [] (record { walk = here; free = tt }))
  here_reply feasible here (found.Walk hops weight settled) says =
      let no_hops : hops ≡ [] = says.empty here in
      let light : weight ≡ 0 = sym (says.walk is).1 ∙ ap weight_of no_hops in
      let graph = roads.land.graph in
      ap (λ (h : List Hop). reply_of graph (found.Walk h weight settled)) no_hops
      ∙ ap (λ (w : ℕ). reply_of graph (found.Walk [] w settled)) light
      ∙ ap (λ (n : ℕ). reply_of graph (found.Walk [] 0 n)) (says.here here)

-- what is right by a bound is right where that bound guides
right_to : (roads : TurnRoads) (from to : NodeId) (bound : ℕ → Option ℕ) → IsBoundBetween roads.land from to roads.guide bound → (result : Result Reply NoMemory)
    → (from.0 ≢ to.0 → IfOk result (IsRightBy roads bound from.0 to.0)) → (from.0 ≡ to.0 → IfOk result (IsRightHere from to)) → IfOk result (IsRightTo roads from to)
right_to roads from to bound guides (Err none) apart here = tt
right_to roads from to bound guides (Ok said) apart here = elim (cases_eq from.0 to.0) [
  | inl same ↦ inl (here same)
  | inr differ ↦ inr (record { apart = differ; bound = bound; bound_is = guides; right = apart differ })
]

-- so it is where a guide that is theirs gives the bound
pub right_guided : (roads : TurnRoads) (land : Land) (guide : Option Preparation) → land ≡ roads.land → guide ≡ roads.guide → (from to : NodeId) (bound : ℕ → Option ℕ)
    → IsBoundBetween land from to guide bound → (result : Result Reply NoMemory)
    → (from.0 ≢ to.0 → IfOk result (IsRightBy roads bound from.0 to.0)) → (from.0 ≡ to.0 → IfOk result (IsRightHere from to)) → IfOk result (IsRightTo roads from to)
right_guided roads land guide land_is guide_is from to bound guides =
    right_to roads from to bound
    (subst (λ (q : Option Preparation). IsBoundBetween roads.land from to q bound) guide_is (subst (λ (l : Land). IsBoundBetween l from to guide bound) land_is guides))
