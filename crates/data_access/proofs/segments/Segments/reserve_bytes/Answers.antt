use Rattle.data_access.proofs.WordBytes.{grown, grown_length}
use Rattle.data_access.proofs.segments.Segments.reserve_bytes.Goals as goal

pub returns-clause-ok : goal.returns-clause-ok
returns-clause-ok c = grown c.self.inside.words c.grow.new.self c.args.self.now c.self.view_is c.in_ok-grow.ensures.ok

pub returns-clause-len : goal.returns-clause-len
returns-clause-len c = grown_length c.self.inside.words c.grow.new.self c.args.self.now c.args.bytes c.div_ceil.result c.self.view_is c.div_ceil.ensures c.in_ok-grow.ensures.len
