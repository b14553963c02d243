use Rattle.std.proofs.Common.{◌≡◌, length}
use Rattle.pbf_wire.specs.Ways.{tags_of}
use Rattle.pbf_reader.proofs.Fronts.{with_front}
use Rattle.pbf_reader.proofs.ways.made_tags.Given as goal

abbrev pub invariant-tags : goal.invariant-tags
invariant-tags l = with_front l.tags (tags_of l.place l.texts l.keys_left l.values_left) ≡ tags_of l.place l.texts l.keys l.values

abbrev pub decreases-tags : goal.decreases-tags
decreases-tags l = length l.keys_left
