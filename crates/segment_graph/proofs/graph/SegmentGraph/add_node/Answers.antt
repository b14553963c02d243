use Rattle.std.proofs.Common.{◌<◌, length, arith}
use Rattle.segment_graph.proofs.Counting.{place_kept_by}
use Rattle.segment_graph.proofs.graph.SegmentGraph.add_node.Goals as goal

pub invariant_of-self : goal.invariant_of-self
invariant_of-self c =
    let graph = c.args.self.now.lists in
    let facts = c.args.self.now.facts in
    let few = facts.few_places in
    let room : length graph.places < 2000000 = omega arith in
    record { facts = place_kept_by graph c.add_place.new.self c.args.place c.add_place.result facts c.requires room c.add_place.ensures.ok c.add_place.ensures.err }
