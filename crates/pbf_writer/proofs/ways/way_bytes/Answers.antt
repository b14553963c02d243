use Rattle.std.proofs.Common.{◌∙◌, ap, map}
use Rattle.gh_base.specs.declared.map.OsmTag.{OsmTag}
use Rattle.pbf_wire.specs.Writing.{index_of, way_text}
use Rattle.pbf_writer.specs.Strings.{spelled}
use Rattle.pbf_writer.proofs.Joined.{four_puts, number_put, packed_put, deltas_put}
use Rattle.pbf_writer.proofs.ways.way_bytes.Goals as goal

pub returns-clause-bytes : goal.returns-clause-bytes
unfolding way_text
returns-clause-bytes c = four_puts _ _ _ _ _ _ _ _ _ c.new-bytes.ensures.items
    (number_put _ _ 1 _ _ c.id_bits.ensures c.in_ok-put_number.ensures)
    (packed_put _ _ 2 _ _ (c.deref.ensures.value ∙ c.in_ok-places.ensures.keys ∙ ap (map (λ (tag : OsmTag). index_of (spelled c.place_tags.new.strings.words) tag.key)) c.as_slice.ensures) c.in_ok-put_packed.ensures)
    (packed_put _ _ 3 _ _ (c.deref-2.ensures.value ∙ c.in_ok-places.ensures.values ∙ ap (map (λ (tag : OsmTag). index_of (spelled c.place_tags.new.strings.words) tag.value)) c.as_slice.ensures) c.in_ok-put_packed-2.ensures)
    (deltas_put _ _ 8 _ _ c.as_slice-2.ensures c.in_ok-put_deltas.ensures)
