use Rattle.prep_store.proofs.Bytes.{of_four, two_taken}
use Rattle.prep_store.proofs.units.read_two.Goals as goal

pub returns-clause-numbers : goal.returns-clause-numbers
returns-clause-numbers g c =
    two_taken 4 4 c.read_whole.new.buf c.read_u32.result c.read_u32-2.result of_four of_four c.read_u32.ensures c.read_u32-2.ensures c.read_whole.auto.buf c.read_whole.ensures.small c.in_ok-read_whole.ensures.taken
