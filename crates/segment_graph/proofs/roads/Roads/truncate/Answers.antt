use Rattle.std.proofs.Common.{arith}
use Rattle.segment_graph.specs.Roads.{road_of}
use Rattle.segment_graph.proofs.Listing.{numbered_len}
use Rattle.segment_graph.proofs.Holding.{roads_cut}
use Rattle.segment_graph.proofs.roads.Roads.truncate.Goals as goal

pub truncate-requires : goal.truncate-requires
truncate-requires c =
    let l = numbered_len (road_of c.self.inside.kept.words) c.self.inside.kept.count c.args.self.now c.self.view_is in
    omega (arith, c.requires)

pub returns : goal.returns
returns c =
    roads_cut c.self.inside.kept.words c.truncate.new.self.words c.self.inside.kept.count c.args.count c.truncate.new.self.count c.args.self.now c.self.view_is
    c.truncate.ensures.words c.truncate.ensures.count c.requires
