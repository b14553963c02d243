use Rattle.std.proofs.Common.{ℕ, List, refl, ap, ◌∙◌, arith}
use Rattle.std.specs.Prelude.{slice_range}
use Rattle.gh_base.specs.declared.map.Point.{Point}
use Rattle.base_graph.specs.Graphs.{Edge}
use Rattle.segment_graph.specs.Rows.{row_at}
use Rattle.segment_graph.proofs.Keeping.{edge_count, edge_there}
use Rattle.segment_graph.proofs.lists.Lists.between.Goals as goal

pub line-line-requires : goal.line-line-requires
line-line-requires c =
    omega (arith, c.requires, edge_count c.args.self.now c.self.inside.places.items c.self.inside.links.rows c.self.inside.roads c.self.inside.points.items c.self.view_is)

pub returns : goal.returns
returns c =
    let row = row_at c.self.inside.links.rows c.args.edge.0 in
    ap (λ (points : List Point). slice_range points c.line-line.result.0 c.line-line.result.1) c.deref.ensures.value
    ∙ (ap (λ (first : ℕ). slice_range c.self.inside.points.items first c.line-line.result.1) c.line-line.ensures.first
    ∙ (ap (λ (end : ℕ). slice_range c.self.inside.points.items row.first_point end) c.line-line.ensures.end
    ∙ ap (λ (edge : Edge). edge.between) (edge_there c.args.self.now c.self.inside.places.items c.self.inside.links.rows c.self.inside.roads c.self.inside.points.items c.args.edge.0 _ c.self.view_is c.requires refl)))
