use Rattle.prep_store.proofs.Bytes.{of_two, of_four, two_taken}
use Rattle.prep_store.proofs.units.read_item.Goals as goal

pub returns-clause-item : goal.returns-clause-item
returns-clause-item g c =
    two_taken 4 2 c.read_whole.new.buf c.read_u32.result c.read_u16.result of_four of_two c.read_u32.ensures c.read_u16.ensures c.read_whole.auto.buf c.read_whole.ensures.small c.in_ok-read_whole.ensures.taken
