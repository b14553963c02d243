use Rattle.std.proofs.Common.{sym, subst, ap, ◌∙◌}
use Rattle.gh_base.specs.Networks.{Network}
use Rattle.turn_graph.specs.States.{IsOver, state_by}
use Rattle.turn_graph.proofs.Known.{known_there}
use Rattle.turn_graph.proofs.view.TurnViewRoadView.start_at.Goals as goal

pub invariant_of-self : goal.invariant_of-self
invariant_of-self g c =
    let v = c.args.self.now in
    let graph = v.graph.now.lists in
    record {
      over = subst (λ (base : Network). IsOver graph base) (sym c.start_at.ensures.network) v.over;
      suits = v.suits;
      starts = v.starts;
      known = known_there graph (g.V.RoadView.network v.base) c.args.node.0 v.from.0 c.state_by-self.result (g.V.RoadView.left c.start_at.new.self) v.over
          (c.state_by-self.ensures ∙ ap (λ n. state_by n c.args.node.0) c.edge_count.ensures) c.start_at.ensures.left;
    }

pub invariant_of-self-in-Passed : goal.invariant_of-self-in-Passed
invariant_of-self-in-Passed g c =
    let v = c.args.self.now in
    let graph = v.graph.now.lists in
    record {
      over = subst (λ (base : Network). IsOver graph base) (sym c.start_at-in-Passed.ensures.network) v.over;
      suits = v.suits;
      starts = v.starts;
      known = known_there graph (g.V.RoadView.network v.base) c.args.node.0 c.end_of-end.result.0 c.state_by-self.result (g.V.RoadView.left c.start_at-in-Passed.new.self) v.over
          (c.state_by-self.ensures ∙ ap (λ n. state_by n c.args.node.0) c.edge_count.ensures) c.start_at-in-Passed.ensures.left;
    }
