use Rattle.std.proofs.Common.{ℕ, ◌∙◌, ap, take, arith}
use Rattle.traffic_core.specs.Trips.{mm_between}
use Rattle.traffic_core.proofs.Among.{labels_right, none_long}
use Rattle.traffic_core.proofs.routing.answer_over.Goals as goal

pub returns-then-labels : goal.returns-then-labels
returns-then-labels g c = λ feasible.
    let network = g.V.RoadView.network c.args.view.now in
    let bound = g.P.Potential.bound c.args.potential.now in
    let start = c.args.ends.start.0 in
    let target = c.args.ends.target.0 in
    let walk = rw c.in-Walk.is at c.in_ok-settled.ensures.walk in
    let least = rw c.in-Walk.is at (c.in_ok-settled.ensures.least feasible) in (
      c.if-labels.true,
      labels_right bound start target _ _ _ c.front_of.result network _ c.search.ensures.network feasible (omega arith)
          (c.front_of.ensures ∙ ap (λ (n : ℕ). take n c.in_ok-list-in-Walk.list) c.node_count.ensures) c.in_ok-list-in-Walk.ensures.nodes
          (record { hops = c.in-Walk.hops; walk = walk.0; weight_is = walk.1; least = least }) (omega arith)
          c.in_ok-list-in-Walk.ensures.labels c.in_ok-list-in-Walk.ensures.evidence,
    )

pub returns-else-labels : goal.returns-else-labels
returns-else-labels g c = λ feasible.
    let walk = rw c.in-Walk.is at c.in_ok-settled.ensures.walk in
    let least = rw c.in-Walk.is at (c.in_ok-settled.ensures.least feasible) in
    let long = rw c.in-Walk.is at c.in_ok-settled.ensures.long in
    let shown = rw c.in-Walk.is at (c.in_ok-settled.ensures.shown feasible) in
    let starts = rw c.in-Walk.is at (c.in_ok-settled.ensures.within feasible) in (
      c.if-labels.false,
      record {
        walk = walk.0;
        weight_is = walk.1;
        least = least;
        empty = λ same. none_long c.in-Walk.hops c.in-Walk.settled long (rw c.in-Walk.is at (c.in_ok-settled.ensures.here same));
        within = omega arith;
        mm_is = c.walk_mm-mm.ensures ∙ ap (mm_between c.args.graph.now.lists c.args.ends.from c.args.ends.to) c.as_slice.ensures;
        shown = shown;
        starts = starts;
      },
    )
