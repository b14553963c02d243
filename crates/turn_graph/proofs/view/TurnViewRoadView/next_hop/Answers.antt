use Rattle.std.proofs.Common.{sym, subst}
use Rattle.gh_base.specs.Networks.{Network}
use Rattle.turn_graph.specs.States.{IsOver}
use Rattle.turn_graph.proofs.Known.{known_after}
use Rattle.turn_graph.proofs.view.TurnViewRoadView.next_hop.Goals as goal

pub invariant_of-self : goal.invariant_of-self
invariant_of-self g c =
    let v = c.args.self.now in
    let graph = v.graph.now.lists in
    record {
      over = subst (λ (base : Network). IsOver graph base) (sym c.next_hop.ensures.network) v.over;
      suits = v.suits;
      starts = v.starts;
      known = known_after graph v.state c.next_hop.result (g.V.RoadView.left v.base) (g.V.RoadView.left c.next_hop.new.self)
          (λ e. let s = c.in-Start.is in cc) c.next_hop.ensures.hop c.next_hop.ensures.ended v.known;
    }
