use Rattle.std.proofs.Common.{◌≡◌, ◌-◌, ◌≤◌, length, take}
use Rattle.std.specs.Io.KnownBytes.{Consumes}
use Rattle.prep_store.specs.Steps.{IsEachByte}
use Rattle.prep_store.proofs.units.fill.Given as goal

-- what was taken is the front of the buffer
abbrev pub invariant-pieces : goal.invariant-pieces
invariant-pieces g l = record {
  taken : Consumes (g.S.Source.left l.fn.source) (g.S.Source.left l.source) (take l.done l.buf);
  place : l.done ≤ length l.buf;
  long : length l.buf ≡ length l.fn.buf;
  small : IsEachByte l.buf;
  later : g.S.Source.faults l.fn.source ≤ g.S.Source.faults l.source;
  mark : g.S.Source.mark l.source ≡ g.S.Source.mark l.fn.source;
}

abbrev pub decreases-pieces : goal.decreases-pieces
decreases-pieces g l = length l.buf - l.done
