-- From what is found by states to turn walks.
use Rattle.std.proofs.Common.{◌≡◌, ◌≢◌, ◌↔◌, ℕ, ◌<◌, ◌≤◌, Option, Result, Ok, Err, IfOk, List, [], ◌∷◌, ◌++◌, map, length, All, Contains, refl, sym, subst, ap, ◌∙◌, arith}
use Rattle.std.proofs.lemmas.List.Elements.{All-nil, All-cons}
use Rattle.gh_base.specs.declared.edges.DirEdge.{DirEdge}
use Rattle.gh_base.specs.declared.edges.Hop.{Hop}
use Rattle.gh_base.specs.Networks.{Network}
use Rattle.walk_rules.specs.Walks.{hops_from, IsWalk, weight_of, IsAtMostEachWalk, NoWalk}
use Rattle.walk_rules.specs.Potentials.{IsFeasible}
use Rattle.walk_rules.specs.Starts.{StartsWithin, StartsAtAll}
use Rattle.gh_base.specs.declared.faults.NoMemory.{NoMemory}
use Rattle.base_graph.specs.Graphs.{Graph}
use Rattle.alt_search.specs.declared.finding.Found.{Found}
use Rattle.alt_search.specs.declared.finding.Found.TheVariants.{Walk as AWalk, NoWalk as Barred}
use Rattle.alt_search.specs.Findings.{IfWalk, IfNoWalk, IsNoWalk}
use Rattle.turn_graph.specs.declared.turn.Turn.{Turn}
use Rattle.turn_graph.specs.Restrictions.{Streets}
use Rattle.turn_graph.specs.TurnWalks.{IsTurnWalk, IsAtMostEachTurnWalk, NoTurnWalk}
use Rattle.turn_graph.specs.States.{onto_state, arrival, onward, walk_by_states, IsOver, AreOfTurnWalk, Trip, by_states, start_in, target_in}
use Rattle.turn_graph.proofs.Passing.{same_weight, hops_over}
use Rattle.turn_routes.specs.Unstated.{tower_hop, AreByTowers, IsByTowers, IsFoundIn}

-- an arrival comes last
onward_is : (edges : ℕ) (hops : List Hop) (by : DirEdge) → (last : Hop) × (onward edges by hops ≡ map onto_state hops ++ last ∷ [])
onward_is edges [] by = (arrival edges by, refl)
onward_is edges (hop ∷ hops) by = let rest = onward_is edges hops hop.by in (rest.0, ap (λ (xs : List Hop). onto_state hop ∷ xs) rest.1)

module _ (graph : Graph) (base : Network) (over : IsOver graph base) where
  same_hop : (node : ℕ) (hop : Hop) → Contains (hops_from base node) hop → tower_hop graph (onto_state hop) ≡ hop
  same_hop node hop c =
      let at : ℕ → Hop = λ n. record { to = record { 0 = n }; by = hop.by; weight = hop.weight } in
      ap at (sym (over.hops node hop c).ends)

  -- by states and back again a walk is the same
  and_back : (hops : List Hop) (from to : ℕ) → IsWalk base from hops to → map (tower_hop graph) (map onto_state hops) ≡ hops
  and_back [] from to w = refl
  and_back (hop ∷ hops) from to w = let first = same_hop from hop w.0 in let rest = and_back hops hop.to.0 to w.2 in cc

  -- each hop of a walk is over an edge
  pub are_over : (hops : List Hop) (from to : ℕ) → IsWalk base from hops to → All (λ hop. hop.by.edge.0 < length graph.edges) hops
  are_over [] from to w = All-nil (λ (hop : Hop). hop.by.edge.0 < length graph.edges)
  are_over (hop ∷ hops) from to w = All-cons (λ (hop : Hop). hop.by.edge.0 < length graph.edges) hop hops (over.hops from hop w.0).is_edge (are_over hops hop.to.0 to w.2)

  module _ (streets : Streets) (turns : List Turn) (same : streets.graph ≡ graph) (from to : ℕ) (differ : from ≢ to) where
    towers_of : (walk hops out : List Hop) → IsTurnWalk base streets turns from walk to → hops ≡ walk_by_states (length streets.graph.edges) walk → AreByTowers graph hops out → out ≡ walk
    towers_of [] hops out w e a = absurd (differ w.walk)
    towers_of (hop ∷ walk) hops out w e a =
        let rest = onward_is (length streets.graph.edges) walk hop.by in
        a (map onto_state (hop ∷ walk)) rest.0 (e ∙ ap (λ (xs : List Hop). onto_state hop ∷ xs) rest.1) ∙ and_back (hop ∷ walk) from to w.walk

    module _ (network : Network) (start target : ℕ)
        (walks : (hops : List Hop) → IsWalk network start hops target ↔ AreOfTurnWalk base streets turns from to hops) where
      walk_is : (hops out : List Hop) (weight : ℕ) → IsWalk network start hops target → weight_of hops ≡ weight → AreByTowers graph hops out →
          IsTurnWalk base streets turns from out to × (weight_of out ≡ weight)
      walk_is hops out weight w e a =
          let t = (walks hops).0 w in
          let is = towers_of t.walk hops out t.is_turn_walk t.hops_are a in
          let n = length streets.graph.edges in (
            subst (λ (xs : List Hop). IsTurnWalk base streets turns from xs to) (sym is) t.is_turn_walk,
            ap weight_of is ∙ sym (same_weight n t.walk) ∙ sym (ap weight_of t.hops_are) ∙ e,
          )

      by_states_too : (others : List Hop) → IsTurnWalk base streets turns from others to → IsWalk network start (walk_by_states (length streets.graph.edges) others) target
      by_states_too others w = (walks (walk_by_states (length streets.graph.edges) others)).1 (record { walk = others; is_turn_walk = w; hops_are = refl })

      least_is : (weight : ℕ) → IsAtMostEachWalk network start target weight → IsAtMostEachTurnWalk base streets turns from to weight
      least_is weight l = λ others w.
          subst (λ (n : ℕ). weight ≤ n) (same_weight (length streets.graph.edges) others) (l (walk_by_states (length streets.graph.edges) others) (by_states_too others w))

      none_is : NoWalk network start target ↔ NoTurnWalk base streets turns from to
      none_is = (
        λ n others w. n (walk_by_states (length streets.graph.edges) others) (by_states_too others w),
        λ n hops w. let t = (walks hops).0 w in n t.walk t.is_turn_walk,
      )

      -- what is found from tower to tower is a turn walk, the least, or there is none
      pub found_walk : (bound : ℕ → Option ℕ) (Feasible : Type 0) (found out : Found) → IsFoundIn network bound start target Feasible found → IsByTowers graph found out →
          IfWalk out (λ hops weight _. IsTurnWalk base streets turns from hops to × (weight_of hops ≡ weight))
      found_walk bound Feasible (AWalk hops weight settled) (AWalk out its_weight its_settled) f b = walk_is hops out its_weight f.walk.0 (f.walk.1 ∙ sym b.weight) b.hops
      found_walk bound Feasible (AWalk hops weight settled) (Barred its_settled) f b = absurd b
      found_walk bound Feasible (Barred settled) (AWalk out its_weight its_settled) f b = absurd b
      found_walk bound Feasible (Barred settled) (Barred its_settled) f b = tt

      pub found_least : (bound : ℕ → Option ℕ) (Feasible : Type 0) (found out : Found) → IsFoundIn network bound start target Feasible found → IsByTowers graph found out → Feasible →
          IfWalk out (λ _ weight _. IsAtMostEachTurnWalk base streets turns from to weight)
      found_least bound Feasible (AWalk hops weight settled) (AWalk out its_weight its_settled) f b is =
          subst (λ (w : ℕ). IsAtMostEachTurnWalk base streets turns from to w) (sym b.weight) (least_is weight (f.least is))
      found_least bound Feasible (AWalk hops weight settled) (Barred its_settled) f b is = absurd b
      found_least bound Feasible (Barred settled) (AWalk out its_weight its_settled) f b is = absurd b
      found_least bound Feasible (Barred settled) (Barred its_settled) f b is = tt

      pub found_none : (bound : ℕ → Option ℕ) (Feasible : Type 0) (found out : Found) → IsFoundIn network bound start target Feasible found → IsByTowers graph found out → Feasible →
          IsNoWalk out ↔ NoTurnWalk base streets turns from to
      found_none bound Feasible (AWalk hops weight settled) (AWalk out its_weight its_settled) f b is =
          (λ no. absurd no, λ n. (f.none is).1 (none_is.1 n))
      found_none bound Feasible (AWalk hops weight settled) (Barred its_settled) f b is = absurd b
      found_none bound Feasible (Barred settled) (AWalk out its_weight its_settled) f b is = absurd b
      found_none bound Feasible (Barred settled) (Barred its_settled) f b is = (λ no. none_is.0 ((f.none is).0 no), λ n. tt)

-- a walk has no more hops from tower to tower than by states
pub found_long : (graph : Graph) (network : Network) (bound : ℕ → Option ℕ) (start target : ℕ) (Feasible : Type 0) (found out : Found) → IsFoundIn network bound start target Feasible found → IsByTowers graph found out →
    IfWalk out (λ hops _ settled. length hops ≤ settled)
found_long graph network bound start target Feasible (AWalk hops weight settled) (AWalk out its_weight its_settled) f b = omega (arith, f.long, b.no_longer, b.settled)
found_long graph network bound start target Feasible (AWalk hops weight settled) (Barred its_settled) f b = absurd b
found_long graph network bound start target Feasible (Barred settled) (AWalk out its_weight its_settled) f b = absurd b
found_long graph network bound start target Feasible (Barred settled) (Barred its_settled) f b = tt

-- what a search answers, as its clauses say it
record Searched (network : Network) (bound : ℕ → Option ℕ) (start target : ℕ) (found : Result Found NoMemory) : Type 0 where
  walk : IfOk found (λ f. IfWalk f (λ hops weight _. IsWalk network start hops target × (weight_of hops ≡ weight)))
  long : IfOk found (λ f. IfWalk f (λ hops _ settled. length hops ≤ settled))
  least : IsFeasible network bound target → IfOk found (λ f. IfWalk f (λ _ weight _. IsAtMostEachWalk network start target weight))
  none : IsFeasible network bound target → IfOk found (λ f. IsNoWalk f ↔ NoWalk network start target)
  within : IsFeasible network bound target → IfOk found (λ f. IfWalk f (λ _ weight settled. StartsWithin network bound start target weight settled))
  all : IsFeasible network bound target → IfOk found (λ f. IfNoWalk f (λ settled. StartsAtAll network bound start target settled))

is_found : (network : Network) (bound : ℕ → Option ℕ) (start target : ℕ) (Feasible : Type 0) (found : Result Found NoMemory) → (Feasible → IsFeasible network bound target) →
    Searched network bound start target found → IfOk found (IsFoundIn network bound start target Feasible)
is_found network bound start target Feasible (Err e) is s = tt
is_found network bound start target Feasible (Ok found) is s = record {
  walk = s.walk;
  long = s.long;
  least = λ f. s.least (is f);
  none = λ f. s.none (is f);
  within = λ f. s.within (is f);
  all = λ f. s.all (is f);
}

pub found_in : (first network : Network) (first_bound bound : ℕ → Option ℕ) (first_start start first_target target : ℕ) (Feasible : Type 0) (found : Result Found NoMemory) →
    first ≡ network → first_bound ≡ bound → first_start ≡ start → first_target ≡ target → (Feasible → IsFeasible network bound target) →
    IfOk found (λ f. IfWalk f (λ hops weight _. IsWalk first first_start hops first_target × (weight_of hops ≡ weight))) →
    IfOk found (λ f. IfWalk f (λ hops _ settled. length hops ≤ settled)) →
    (IsFeasible first first_bound first_target → IfOk found (λ f. IfWalk f (λ _ weight _. IsAtMostEachWalk first first_start first_target weight))) →
    (IsFeasible first first_bound first_target → IfOk found (λ f. IsNoWalk f ↔ NoWalk first first_start first_target)) →
    (IsFeasible first first_bound first_target → IfOk found (λ f. IfWalk f (λ _ weight settled. StartsWithin first first_bound first_start first_target weight settled))) →
    (IsFeasible first first_bound first_target → IfOk found (λ f. IfNoWalk f (λ settled. StartsAtAll first first_bound first_start first_target settled))) →
    IfOk found (IsFoundIn network bound start target Feasible)
found_in first network first_bound bound first_start start first_target target Feasible found n b s t is w lo l z wi al =
    let one : Searched first first_bound first_start first_target found = record { walk = w; long = lo; least = l; none = z; within = wi; all = al } in
    let two = subst (λ (x : Network). Searched x first_bound first_start first_target found) n one in
    let three = subst (λ (x : ℕ → Option ℕ). Searched network x first_start first_target found) b two in
    let four = subst (λ (x : ℕ). Searched network bound x first_target found) s three in
    is_found network bound start target Feasible found is (subst (λ (x : ℕ). Searched network bound start x found) t four)

-- a walk that is found by states is over edges, whatever is banned
pub found_over : (trip : Trip) (bound : ℕ → Option ℕ) (Feasible : Type 0) (found : Found) → IsOver trip.graph trip.base →
    IsFoundIn (by_states trip) bound (start_in trip.graph) (target_in trip.graph) Feasible found → IfWalk found (λ hops _ _. All (λ hop. hop.by.edge.0 < length trip.graph.edges) hops)
found_over trip bound Feasible (AWalk hops weight settled) over f = hops_over trip over hops (start_in trip.graph) (target_in trip.graph) f.walk.0
found_over trip bound Feasible (Barred settled) over f = tt
