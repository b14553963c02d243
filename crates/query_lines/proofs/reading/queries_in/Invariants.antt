use Rattle.std.proofs.Common.{◌≡◌, ◌≤◌, ◌+◌, [], length}
use Rattle.std.specs.Option.{option_map}
use Rattle.gh_base.specs.Parts.{parts_left, parts_of, room}
use Rattle.query_lines.specs.Queries.{queries_from}
use Rattle.query_lines.proofs.reading.queries_in.Given as goal

-- what the lines that are left make of what stood is what all of them make
abbrev pub invariant-lines : goal.invariant-lines
invariant-lines l = record {
  read : queries_from l.number l.queries (parts_left 10 (option_map (λ t. t.now) l.left)) ≡ queries_from 1 [] (parts_of 10 l.bytes);
  lines : l.number + room (option_map (λ t. t.now) l.left) ≤ length l.bytes + 2;
}

abbrev pub decreases-lines : goal.decreases-lines
decreases-lines l = room (option_map (λ t. t.now) l.left)
