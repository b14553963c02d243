use Rattle.std.proofs.Common.{◌≡◌, ◌++◌, filter_map}
use Rattle.std.specs.Option.{option_map}
use Rattle.gh_base.specs.Parts.{parts_left, room}
use Rattle.turn_texts.specs.PlainRelations.{turn_at, plain_turns}
use Rattle.turn_texts.proofs.lines.read_plain_turns.Given as goal

-- those so far, and those of the lines that are left, are all
abbrev pub invariant-lines : goal.invariant-lines
invariant-lines l = l.turns ++ filter_map turn_at (parts_left 10 (option_map (λ t. t.now) l.left)) ≡ plain_turns l.bytes

abbrev pub decreases-lines : goal.decreases-lines
decreases-lines l = room (option_map (λ t. t.now) l.left)
