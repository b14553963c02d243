use Rattle.std.proofs.Common.{◌≡◌, drop}
use Rattle.pbf_wire.specs.Headers.{features_in}
use Rattle.pbf_reader.proofs.headers.check_features.Given as goal

abbrev pub invariant-loop-spot : goal.invariant-loop-spot
invariant-loop-spot l = features_in l.bytes (drop l.spot-index l.fields) ≡ features_in l.bytes l.fields
