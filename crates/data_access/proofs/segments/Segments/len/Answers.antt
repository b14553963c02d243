use Rattle.std.proofs.Common.{length, ap, arith}
use Rattle.data_access.proofs.WordBytes.{length-bytes_of}
use Rattle.data_access.proofs.segments.Segments.len.Goals as goal

pub returns : goal.returns
returns c = omega (arith, length-bytes_of c.self.inside.words, ap length c.self.view_is)
