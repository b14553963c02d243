use Rattle.std.proofs.Common.{ap, ◌%◌, ◌/◌, ℕ, arith}
use Rattle.data_access.proofs.WordBytes.{below, reads_low, reads_high}
use Rattle.data_access.proofs.segments.Segments.get_u16.Goals as goal

pub get-word-requires : goal.get-word-requires
get-word-requires c = below c.self.inside.words c.args.self.now c.args.at c.self.view_is c.requires.inside

pub returns-then-at-eq0 : goal.returns-then-at-eq0
returns-then-at-eq0 c = reads_low c.self.inside.words c.args.self.now c.args.at _ c.self.view_is (omega arith) c.requires.inside (ap (λ (n : ℕ). n % 65536) c.get-word.ensures)

pub returns-else-at-eq0 : goal.returns-else-at-eq0
returns-else-at-eq0 c = reads_high c.self.inside.words c.args.self.now c.args.at _ c.self.view_is c.requires.aligned (omega arith) c.requires.inside (ap (λ (n : ℕ). n / 65536) c.get-word.ensures) (omega arith)
