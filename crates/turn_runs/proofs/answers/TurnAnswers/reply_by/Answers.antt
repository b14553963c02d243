use Rattle.std.proofs.Common.{◌≡◌, ◌∙◌, sym, subst, ap}
use Rattle.gh_base.specs.Networks.{Network}
use Rattle.walk_rules.specs.Potentials.{IsFeasible}
use Rattle.base_graph.specs.Graphs.{Graph}
use Rattle.weighting.specs.Roads.{network_of, opening_of}
use Rattle.turn_graph.specs.Tables.{IsTableOf, streets_for}
use Rattle.turn_graph.specs.States.{IsOver}
use Rattle.script_text.specs.declared.reply.Reply.{Reply}
use Rattle.map_roads.specs.Opening.{opening_network, guide_of}
use Rattle.turn_runs.specs.Lines.{TurnRoads, IsRightBy}
use Rattle.turn_runs.specs.Sound.{reply_of}
use Rattle.turn_runs.proofs.Searched.{search_over, hops_over, right_reply, here_reply}
use Rattle.turn_runs.proofs.answers.TurnAnswers.reply_by.Goals as goal

pub search_turns-requires-clause-over : goal.search_turns-requires-clause-over
search_turns-requires-clause-over g c =
    let graph = c.graph-graph.result.now in
    subst (λ (n : Network). IsOver graph.lists n) (sym c.new-view.ensures.network)
    (c.weighed_roads_are_over.ensures c.new-weighting.result (opening_of c.new-limits.result.graph.now.lists) graph.lists graph.facts)

pub reply_of-requires-clause-over : goal.reply_of-requires-clause-over
reply_of-requires-clause-over g c =
    let i = c.self.inside in
    let graph = c.graph-graph.result.now in
    let table_is = subst (λ (own : Graph). IsTableOf (streets_for own i.ground.now.ids i.table.now) i.turns.now i.table.now) (sym c.graph-graph.ensures) c.self.invariant.table_is in
    hops_over c.new-weighting.result (opening_of c.new-limits.result.graph.now.lists) graph.lists graph.facts _ c.new-view.ensures.network _ _ c.args.from.0 c.args.to.0 c.in_ok-found.found
    (c.in_ok-found.ensures.walk i.ground.now.ids i.turns.now table_is)

pub returns : goal.returns
returns g c =
    let i = c.self.inside in
    let roads : TurnRoads = record { land = i.ground.now; turns = i.turns.now; table = i.table.now; guide = guide_of i.made.now } in
    let found = c.in_ok-found.found in
    let bound = g.P.Potential.bound c.args.inner in
    let graph = c.graph-graph.result.now.lists in
    let v = c.new-view.result in
    let says = search_over roads c.profile.result.now c.new-weighting.result (opening_of c.new-limits.result.graph.now.lists) graph
    (network_of v.side v.weighting.now (opening_of v.limits.now.graph.now.lists) v.graph.now.lists)
    bound c.args.from.0 c.args.to.0 found
    c.new-view.ensures.network c.new-weighting.ensures c.profile.ensures.profile c.new-limits.ensures.limits c.graph-graph.ensures
    (record {
      walk = c.in_ok-found.ensures.walk roads.land.ids roads.turns;
      least = c.in_ok-found.ensures.least roads.land.ids roads.turns;
      none = c.in_ok-found.ensures.none roads.land.ids roads.turns;
      within = c.in_ok-found.ensures.within;
      all = c.in_ok-found.ensures.all;
      here = c.in_ok-found.ensures.here;
      empty = c.in_ok-found.ensures.empty;
    }) in
    let table_is = c.self.invariant.table_is in
    let feasible = subst (λ (r : TurnRoads). IsFeasible (opening_network r.land) bound c.args.to.0) (sym c.self.view_is) c.requires.feasible in
    let said_is : c.reply_of.result ≡ reply_of roads.land.graph found = c.reply_of.ensures ∙ ap (λ (own : Graph). reply_of own found) c.graph-graph.ensures in
    record {
      apart = λ apart.
          subst (λ (r : TurnRoads). IsRightBy r bound c.args.from.0 c.args.to.0 c.reply_of.result) c.self.view_is
          (subst (λ (said : Reply). IsRightBy roads bound c.args.from.0 c.args.to.0 said) (sym said_is)
          (right_reply roads table_is bound c.args.from.0 c.args.to.0 feasible apart found says));
      here = λ here. record { here = here; said_is = said_is ∙ here_reply roads table_is bound c.args.from.0 c.args.to.0 feasible here found says };
    }
