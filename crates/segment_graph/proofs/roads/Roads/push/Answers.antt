use Rattle.std.proofs.Common.{arith}
use Rattle.segment_graph.specs.Roads.{road_of}
use Rattle.segment_graph.proofs.Listing.{numbered_len}
use Rattle.segment_graph.proofs.roads.Roads.push.Goals as goal

pub push-requires : goal.push-requires
push-requires c =
    let l = numbered_len (road_of c.self.inside.kept.words) c.self.inside.kept.count c.args.self.now c.self.view_is in
    omega (arith, c.requires)
