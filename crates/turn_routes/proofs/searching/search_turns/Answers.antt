use Rattle.std.proofs.Common.{[], refl}
use Rattle.std.proofs.lemmas.Result.{IfOk-weaker}
use Rattle.walk_rules.specs.Potentials.{IsFeasible}
use Rattle.turn_graph.specs.Tables.{streets_for}
use Rattle.turn_graph.specs.States.{trip_by, by_states, start_in, target_in}
use Rattle.turn_graph.specs.Bounds.{bound_by}
use Rattle.turn_graph.proofs.Passing.{walks_are}
use Rattle.turn_routes.specs.Unstated.{IsByTowers}
use Rattle.turn_routes.proofs.Routes.{found_walk, found_least, found_none, found_over, found_long}
use Rattle.turn_routes.proofs.searching.search_turns.Goals as goal

pub returns-then-from-to-clause-none : goal.returns-then-from-to-clause-none
returns-then-from-to-clause-none g c = λ ids all is f. (λ no. absurd no, λ n. n [] (record { walk = c.if-from-to.true; free = tt }))

pub by_towers-requires : goal.by_towers-requires
by_towers-requires g c =
    found_over (trip_by (g.V.RoadView.network c.args.base) c.args.graph.now.lists c.args.turns.now c.args.from.0 c.args.to.0)
    (bound_by (g.P.Potential.bound c.args.inner) c.args.graph.now.lists c.args.from.0)
    (IsFeasible (g.V.RoadView.network c.args.base) (g.P.Potential.bound c.args.inner) c.args.to.0)
    c.in_ok-found.found c.requires.over c.in_ok-found.ensures

pub returns-clause-walk : goal.returns-clause-walk
returns-clause-walk g c = λ ids all is.
    let base = g.V.RoadView.network c.args.base in
    let graph = c.args.graph.now.lists in
    let table = c.args.turns.now in
    let inner = g.P.Potential.bound c.args.inner in
    let streets = streets_for graph ids table in
    IfOk-weaker c.by_towers.result (IsByTowers graph c.in_ok-found.found) _
    (λ out b. found_walk graph base c.requires.over streets all refl c.args.from.0 c.args.to.0 c.if-from-to.false
    (by_states (trip_by base graph table c.args.from.0 c.args.to.0)) (start_in graph) (target_in graph)
    (walks_are base graph table c.args.from.0 c.args.to.0 ids all c.args.graph.now.facts c.requires.over c.if-from-to.false is)
    (bound_by inner graph c.args.from.0) (IsFeasible base inner c.args.to.0) c.in_ok-found.found out c.in_ok-found.ensures b)
    c.by_towers.ensures

pub returns-clause-least : goal.returns-clause-least
returns-clause-least g c = λ ids all is f.
    let base = g.V.RoadView.network c.args.base in
    let graph = c.args.graph.now.lists in
    let table = c.args.turns.now in
    let inner = g.P.Potential.bound c.args.inner in
    let streets = streets_for graph ids table in
    IfOk-weaker c.by_towers.result (IsByTowers graph c.in_ok-found.found) _
    (λ out b. found_least graph base c.requires.over streets all refl c.args.from.0 c.args.to.0 c.if-from-to.false
    (by_states (trip_by base graph table c.args.from.0 c.args.to.0)) (start_in graph) (target_in graph)
    (walks_are base graph table c.args.from.0 c.args.to.0 ids all c.args.graph.now.facts c.requires.over c.if-from-to.false is)
    (bound_by inner graph c.args.from.0) (IsFeasible base inner c.args.to.0) c.in_ok-found.found out c.in_ok-found.ensures b f)
    c.by_towers.ensures

pub returns-clause-none : goal.returns-clause-none
returns-clause-none g c = λ ids all is f.
    let base = g.V.RoadView.network c.args.base in
    let graph = c.args.graph.now.lists in
    let table = c.args.turns.now in
    let inner = g.P.Potential.bound c.args.inner in
    let streets = streets_for graph ids table in
    IfOk-weaker c.by_towers.result (IsByTowers graph c.in_ok-found.found) _
    (λ out b. found_none graph base c.requires.over streets all refl c.args.from.0 c.args.to.0 c.if-from-to.false
    (by_states (trip_by base graph table c.args.from.0 c.args.to.0)) (start_in graph) (target_in graph)
    (walks_are base graph table c.args.from.0 c.args.to.0 ids all c.args.graph.now.facts c.requires.over c.if-from-to.false is)
    (bound_by inner graph c.args.from.0) (IsFeasible base inner c.args.to.0) c.in_ok-found.found out c.in_ok-found.ensures b f)
    c.by_towers.ensures

pub returns-clause-long : goal.returns-clause-long
returns-clause-long g c =
    let base = g.V.RoadView.network c.args.base in
    let graph = c.args.graph.now.lists in
    let inner = g.P.Potential.bound c.args.inner in
    IfOk-weaker c.by_towers.result (IsByTowers graph c.in_ok-found.found) _
    (λ out b. found_long graph (by_states (trip_by base graph c.args.turns.now c.args.from.0 c.args.to.0)) (bound_by inner graph c.args.from.0) (start_in graph) (target_in graph)
    (IsFeasible base inner c.args.to.0) c.in_ok-found.found out c.in_ok-found.ensures b)
    c.by_towers.ensures
