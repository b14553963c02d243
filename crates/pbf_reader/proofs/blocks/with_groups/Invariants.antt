use Rattle.std.proofs.Common.{◌≡◌, drop}
use Rattle.pbf_wire.specs.Blocks.{groups_with}
use Rattle.pbf_reader.proofs.blocks.with_groups.Given as goal

abbrev pub invariant-loop-group : goal.invariant-loop-group
invariant-loop-group l = groups_with l.texts l.scale l.made (drop l.group-index l.groups) ≡ groups_with l.texts l.scale l.fn.map l.groups
