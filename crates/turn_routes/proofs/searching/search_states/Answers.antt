use Rattle.std.proofs.Common.{◌+◌, ◌*◌, ℕ, ap}
use Rattle.walk_rules.specs.Potentials.{IsFeasible}
use Rattle.turn_graph.specs.States.{trip_by, by_states, start_in, target_in}
use Rattle.turn_graph.specs.Bounds.{bound_by}
use Rattle.turn_graph.proofs.Bounding.{feasible_by_states}
use Rattle.turn_routes.proofs.Routes.{found_in}
use Rattle.turn_routes.proofs.searching.search_states.Goals as goal

pub returns : goal.returns
returns g c =
    let base = g.V.RoadView.network c.args.base in
    let inner = g.P.Potential.bound c.args.inner in
    let graph = c.args.graph.now.lists in
    let table = c.args.turns.now in
    let v = c.new-view.result in
    let p = c.new-potential.result in
    let bound = bound_by inner graph c.args.from.0 in
    let first_bound = bound_by (g.P.Potential.bound p.inner) p.graph.now.lists p.from.0 in
    found_in (by_states (trip_by (g.V.RoadView.network v.base) v.graph.now.lists v.turns.now v.from.0 v.to.0)) (by_states (trip_by base graph table c.args.from.0 c.args.to.0))
    first_bound bound (2 * c.edge_count-start.result) (start_in graph) (2 * c.edge_count-start.result + 1) (target_in graph)
    (IsFeasible base inner c.args.to.0) c.search.result
    c.new-view.ensures.network c.new-potential.ensures.is (ap (λ (n : ℕ). 2 * n) c.edge_count-start.ensures) (ap (λ (n : ℕ). 2 * n + 1) c.edge_count-start.ensures)
    (λ f. feasible_by_states (trip_by base graph table c.args.from.0 c.args.to.0) c.requires.over inner f)
    c.search.ensures.walk c.search.ensures.long c.search.ensures.least c.search.ensures.none c.search.ensures.within c.search.ensures.all
