use Rattle.std.proofs.Common.{◌∙◌}
use Rattle.segment_graph.proofs.links.Links.behind.Goals as goal

pub returns : goal.returns
returns c = c.next.ensures ∙ c.args.self.now.linked.next c.args.half c.requires
