use Rattle.std.proofs.Common.{arith}
use Rattle.data_access.proofs.WordBytes.{below, reads_u32}
use Rattle.data_access.proofs.segments.Segments.get_u32.Goals as goal

pub get-requires : goal.get-requires
get-requires c = below c.self.inside.words c.args.self.now c.args.at c.self.view_is (omega arith)

pub returns : goal.returns
returns c = reads_u32 c.self.inside.words c.args.self.now c.args.at c.get.result c.self.view_is c.requires.aligned c.requires.inside c.get.ensures (omega arith)
