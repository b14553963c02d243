use Rattle.segment_graph.proofs.Linking.{tower_linked_by}
use Rattle.segment_graph.proofs.links.Links.add_tower.Goals as goal

pub invariant_of-self : goal.invariant_of-self
invariant_of-self c = record {
  linked = tower_linked_by c.args.self.now.heads c.append.new.self c.args.self.now.rows c.append.result c.args.self.now.linked c.append.ensures.ok c.append.ensures.err;
}
