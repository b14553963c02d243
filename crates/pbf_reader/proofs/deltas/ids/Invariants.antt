use Rattle.std.proofs.Common.{◌≡◌, ◌<◌, pos, nat_abs, drop}
use Rattle.pbf_wire.specs.Deltas.{ids_from}
use Rattle.pbf_reader.proofs.Fronts.{with_front}
use Rattle.pbf_reader.proofs.deltas.ids.Given as goal

abbrev pub invariant-loop-delta : goal.invariant-loop-delta
invariant-loop-delta l = record {
  read : with_front l.ids (ids_from l.place l.last (drop l.delta-index l.deltas)) ≡ ids_from l.place (pos 0) l.deltas;
  small : nat_abs l.last < 1000000000000000000;
}
