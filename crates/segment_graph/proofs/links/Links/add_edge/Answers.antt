use Rattle.segment_graph.proofs.Linking.{edge_linked_by}
use Rattle.segment_graph.proofs.links.Links.add_edge.Goals as goal

pub invariant_of-self-2 : goal.invariant_of-self-2
invariant_of-self-2 c = record {
  linked = edge_linked_by c.args.self.now.heads c.args.self.now.rows c.args.ends c.args.first_point c.args.end_point c.len-count.result c.linked-row.result c.push.new.self c.set.new.self c.set-2.new.self
      c.args.self.now.linked c.len-count.ensures.len c.requires.base c.requires.adjacent c.requires.few c.linked-row.ensures c.in_ok-push.ensures.ok c.set.ensures c.set-2.ensures;
}
