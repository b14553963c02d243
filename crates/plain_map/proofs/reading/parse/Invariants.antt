use Rattle.std.proofs.Common.{◌≡◌, ◌≤◌, ◌+◌, length}
use Rattle.std.specs.Prelude.{All}
use Rattle.gh_base.specs.Places.{IsOnEarth}
use Rattle.std.specs.Option.{option_map}
use Rattle.gh_base.specs.Parts.{parts_left, room}
use Rattle.plain_map.specs.Lines.{reads, reads_from}
use Rattle.plain_map.proofs.reading.parse.Given as goal

-- what the lines that are left make of the map is what all of them make
abbrev pub invariant-lines : goal.invariant-lines
invariant-lines l = record {
  read : reads_from l.number l.map (parts_left 10 (option_map (λ t. t.now) l.left)) ≡ reads l.bytes;
  on_earth : All (λ n. IsOnEarth n.place) l.map.nodes;
  lines : l.number + room (option_map (λ t. t.now) l.left) ≤ length l.bytes + 2;
}

abbrev pub decreases-lines : goal.decreases-lines
decreases-lines l = room (option_map (λ t. t.now) l.left)
