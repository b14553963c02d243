use Rattle.std.proofs.Common.{ℕ, Option, ap, ◌∙◌}
use Rattle.std.specs.Option.{is_some}
use Rattle.gh_base.specs.declared.edges.DirEdge.{DirEdge}
use Rattle.weighting.specs.Roads.{whole_weight}
use Rattle.weighting.proofs.weighting.Weighting.opens.Goals as goal

pub returns : goal.returns
returns c =
    c.is_some.ensures
    ∙ ap (λ (w : Option ℕ). is_some w) c.whole_weight.ensures
    ∙ ap (λ (limits : DirEdge → ℕ). is_some (whole_weight c.args.self.now limits c.args.graph.now.lists c.args.edge)) c.new-opening.ensures.limits
