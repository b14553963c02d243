use Rattle.std.proofs.Common.{◌≡◌, ◌≤◌, ◌+◌, ◌^◌, length}
use Rattle.std.specs.Option.{option_map}
use Rattle.gh_base.specs.Parts.{parts_left, parts_of, room}
use Rattle.script_text.specs.Grammar.{reads_from, nothing}
use Rattle.script_text.specs.States.{IsSoFar, IsTally}
use Rattle.script_text.proofs.reading.read_script.Given as goal

-- what the lines that are left make of what stood is what all of them make
abbrev pub invariant-lines : goal.invariant-lines
invariant-lines l = record {
  read : reads_from l.number l.so_far (parts_left 10 (option_map (λ t. t.now) l.left)) ≡ reads_from 1 nothing (parts_of 10 l.bytes);
  sound : IsSoFar l.so_far;
  counted : IsTally l.so_far l.tally;
  first : 1 ≤ l.number;
  lines : l.number + room (option_map (λ t. t.now) l.left) ≤ length l.bytes + 2;
}

abbrev pub decreases-lines : goal.decreases-lines
decreases-lines l = room (option_map (λ t. t.now) l.left)
