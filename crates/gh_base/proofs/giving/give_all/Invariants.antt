use Rattle.std.proofs.Common.{◌≤◌, ◌-◌, length, take}
use Rattle.std.specs.Io.KnownBytes.{Appends}
use Rattle.gh_base.proofs.giving.give_all.Given as goal

-- what is given is the text up to here
abbrev pub invariant-pieces : goal.invariant-pieces
invariant-pieces g l = record {
  given : Appends (g.K.Sink.held l.fn.out) (g.K.Sink.held l.out) (take l.done l.text);
  place : l.done ≤ length l.text;
  later : g.K.Sink.faults l.fn.out ≤ g.K.Sink.faults l.out;
}

abbrev pub decreases-pieces : goal.decreases-pieces
decreases-pieces g l = length l.text - l.done
