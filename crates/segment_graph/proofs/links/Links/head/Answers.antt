use Rattle.std.proofs.Common.{◌∙◌}
use Rattle.segment_graph.proofs.links.Links.head.Goals as goal

pub returns : goal.returns
returns c = c.get.ensures ∙ c.args.self.now.linked.first c.args.tower.0 c.requires
