use Rattle.std.proofs.Common.{◌≡◌, ◌*◌, ◌^◌, ◌≤◌, pos, nat_abs, drop}
use Rattle.pbf_wire.specs.Deltas.{coordinates_from}
use Rattle.pbf_reader.proofs.Fronts.{with_front}
use Rattle.pbf_reader.proofs.deltas.coordinates.Given as goal

abbrev pub invariant-loop-delta : goal.invariant-loop-delta
invariant-loop-delta l = record {
  read : with_front l.found (coordinates_from l.place l.axis l.last (drop l.delta-index l.deltas)) ≡ coordinates_from l.place l.axis (pos 0) l.deltas;
  small : nat_abs l.last ≤ 2 ^ 63 * l.delta-index;
}
