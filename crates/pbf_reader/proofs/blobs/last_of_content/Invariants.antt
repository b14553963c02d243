use Rattle.std.proofs.Common.{◌≡◌, ◌≤◌, None, IfSome, drop}
use Rattle.pbf_wire.specs.Blobs.{last_content}
use Rattle.pbf_reader.proofs.blobs.last_of_content.Given as goal

abbrev pub invariant-loop-spot : goal.invariant-loop-spot
invariant-loop-spot l = record {
  value : last_content l.found (drop l.spot-index l.fields) ≡ last_content None l.fields;
  small : IfSome l.found (λ s. s.field.number ≤ 7);
}
