use Rattle.std.proofs.Common.{◌≡◌, ◌++◌, drop}
use Rattle.pbf_wire.specs.Parts.{varints_text}
use Rattle.pbf_writer.proofs.fields.packed.Given as goal

-- what is written, and the numbers that are left
abbrev pub invariant-loop-value : goal.invariant-loop-value
invariant-loop-value l = l.bytes.items ++ varints_text (drop l.value-index l.values) ≡ varints_text l.values
