use Rattle.std.proofs.Common.{◌≡◌, ◌++◌, drop, filter_map}
use Rattle.turn_pbf.specs.PbfTurns.{turn_in, group_turns}
use Rattle.turn_pbf.proofs.blocks.add_group.Given as goal

-- those so far, and those of the fields that are left, are all
abbrev pub invariant-loop-spot : goal.invariant-loop-spot
invariant-loop-spot l = l.turns ++ filter_map (turn_in l.texts l.bytes) (drop l.spot-index l.spot-items) ≡ l.fn.turns ++ group_turns l.texts l.bytes l.fn.at
