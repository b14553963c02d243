use Rattle.std.proofs.Common.{◌≡◌, drop}
use Rattle.pbf_wire.specs.Blocks.{texts_in}
use Rattle.pbf_reader.proofs.Fronts.{with_front}
use Rattle.pbf_reader.proofs.blocks.read_texts.Given as goal

abbrev pub invariant-loop-spot : goal.invariant-loop-spot
invariant-loop-spot l = with_front l.texts (texts_in l.table l.pieces (drop l.spot-index l.fields)) ≡ texts_in l.table l.pieces l.fields
