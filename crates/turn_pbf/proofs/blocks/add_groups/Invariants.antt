use Rattle.std.proofs.Common.{◌≡◌, ◌++◌, drop}
use Rattle.turn_pbf.specs.PbfTurns.{groups_turns}
use Rattle.turn_pbf.proofs.blocks.add_groups.Given as goal

-- those so far, and those of the fields that are left, are all
abbrev pub invariant-loop-spot : goal.invariant-loop-spot
invariant-loop-spot l = l.turns ++ groups_turns l.texts l.bytes (drop l.spot-index l.fields) ≡ l.fn.turns ++ groups_turns l.texts l.bytes l.fields
