use Rattle.std.proofs.Common.{length, ap, sym, ◌∙◌, ◌≡◌, ◌*◌, arith}
use Rattle.traffic_core.specs.Standing.{State}
use Rattle.traffic_core.specs.Rows.{opening_limits}
use Rattle.traffic_core.proofs.LimitIndex.{length-opening_limits}
use Rattle.traffic_core.proofs.WithRows.{length-with_rows}
use Rattle.traffic_core.proofs.state.RoadState.limit_count.Goals as goal

pub returns-clause-of_limits : goal.returns-clause-of_limits
returns-clause-of_limits c =
    let kept : length c.args.self.now.limits ≡ 2 * length c.self.inside.ground.now.graph.edges = ap (λ (s : State). length s.limits) (sym c.self.view_is)
    ∙ (length-with_rows (opening_limits c.self.inside.ground.now.graph.edges) c.self.inside.changed.rows ∙ length-opening_limits c.self.inside.ground.now.graph.edges) in
    search arith
