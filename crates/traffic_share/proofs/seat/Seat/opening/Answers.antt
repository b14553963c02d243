use Rattle.std.proofs.Common.{ap, ◌∙◌, ℕ}
use Rattle.gh_base.specs.declared.edges.DirEdge.{DirEdge}
use Rattle.base_graph.specs.Graphs.{Graph}
use Rattle.weighting.specs.Roads.{opening_of}
use Rattle.traffic_core.specs.Lands.{Land}
use Rattle.traffic_share.proofs.seat.Seat.opening.Goals as goal

pub returns : goal.returns
returns g c =
    c.limit.ensures ∙ ap (λ (limits : DirEdge → ℕ). limits c.args.by) c.new.ensures.limits
    ∙ ap (λ (graph : Graph). opening_of graph c.args.by) c.graph.ensures ∙ ap (λ (land : Land). opening_of land.graph c.args.by) c.ground.ensures
