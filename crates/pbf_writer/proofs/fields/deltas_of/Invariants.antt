use Rattle.std.proofs.Common.{◌≡◌, ◌++◌, pos, drop}
use Rattle.pbf_wire.specs.Parts.{deltas}
use Rattle.pbf_writer.proofs.fields.deltas_of.Given as goal

-- what is kept, and the numbers that are left
abbrev pub invariant-loop-value : goal.invariant-loop-value
invariant-loop-value l = l.list.items ++ deltas l.last (drop l.value-index l.values) ≡ deltas (pos 0) l.values
