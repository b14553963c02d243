use Rattle.std.proofs.Common.{◌<◌, ℕ, length, ap, sym, ◌∙◌}
use Rattle.std.specs.Prelude.{unwrap_or}
use Rattle.base_graph.specs.Graphs.{Graph}
use Rattle.traffic_core.specs.History.{index_of}
use Rattle.traffic_core.specs.Rows.{opening_limits}
use Rattle.traffic_core.proofs.LimitIndex.{length-opening_limits, limit_in-opening_limits, index_within}
use Rattle.traffic_core.proofs.state.RoadState.limit.Goals as goal

pub returns : goal.returns
returns c =
    let graph : Graph = c.self.inside.ground.now.graph in
    let there = rw (← c.self.view_is) at c.requires in
    let within : index_of c.args.edge < length (opening_limits graph.edges) = index_within (opening_limits graph.edges) graph c.args.edge (length-opening_limits graph.edges) there in
    let opening = limit_in-opening_limits graph c.args.edge in
    let got = rw c.index_of_edge.ensures at (c.get.ensures (opening_limits graph.edges) (rw c.index_of_edge.ensures within)) in
    rw (c.unwrap_or.ensures, c.opening_limit-opening.ensures, c.values.ensures, c.graph.ensures, ← c.self.view_is) (ap (λ (n : ℕ). unwrap_or c.get.result n) (sym opening) ∙ sym got)
