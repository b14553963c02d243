use Rattle.prep_store.proofs.Bytes.{four_taken}
use Rattle.prep_store.proofs.units.read_u32.Goals as goal

pub returns-clause-number : goal.returns-clause-number
returns-clause-number g c = four_taken c.read_whole.new.buf c.from_be_bytes.result c.from_be_bytes.ensures c.read_whole.auto.buf c.read_whole.ensures.small c.in_ok-read_whole.ensures.taken
