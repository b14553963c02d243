use Rattle.std.proofs.Common.{◌≡◌, ℕ, None, length}
use Rattle.std.specs.Prelude.{slice_index_or}
use Rattle.script_service.proofs.memory.Memory.new.Given as goal

abbrev pub invariant-loop : goal.invariant-loop
invariant-loop g l = record {
  long : length l.held.items ≡ l.counter;
  none : (profile : ℕ) → slice_index_or l.held.items profile None ≡ None;
}
