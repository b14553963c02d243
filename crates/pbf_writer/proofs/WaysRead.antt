-- Ways that are written are read again.
use Rattle.std.proofs.lemmas.Bool.{eq-eqb}
use Rattle.std.proofs.lemmas.Int.{ints, to_z-of_z, fits_signed_from_abs}
use Rattle.std.proofs.lemmas.List.{length-map}
use Rattle.std.proofs.Common.{◌≡◌, ◌∙◌, ℕ, ◌+◌, ◌%◌, ◌^◌, ◌<◌, ◌==◌, ℤ, pos, List, [], ◌∷◌, ◌++◌, length, map, take, drop, Some, None, Ok, Bool, true, ◌&&◌, refl, sym, arith, append_assoc, append-nil}
use Rattle.std.specs.List.{AllByRecursion}
use Rattle.std.specs.Int.{cast_signed, cast_unsigned, w64}
use Rattle.gh_base.specs.declared.map.OsmTag.{OsmTag}
use Rattle.gh_base.specs.declared.map.OsmWay.{OsmWay}
use Rattle.pbf_wire.specs.declared.fields.Piece.{Piece}
use Rattle.pbf_wire.specs.declared.messages.Message.{Message}
use Rattle.pbf_wire.specs.declared.messages.Message.TheVariants as message
use Rattle.pbf_wire.specs.declared.messages.GroupSoFar.{GroupSoFar}
use Rattle.pbf_wire.specs.declared.messages.Way.{Way}
use Rattle.pbf_wire.specs.declared.messages.Scale.{Scale}
use Rattle.pbf_wire.specs.Put.{bytes_field}
use Rattle.pbf_wire.specs.Ways.{way_of, way_with, tags_of}
use Rattle.pbf_wire.specs.Groups.{messages_of, message_in, messages_with, message_with}
use Rattle.pbf_wire.specs.Parts.{Part, message_text, deltas}
use Rattle.gh_base.specs.Maps.{IsShort}
use Rattle.pbf_wire.specs.Writing.{index_of, words_of, way_parts, way_text}
use Rattle.pbf_writer.proofs.FieldsRead.{IsPart, lead, spots_of, message_read, behind, content_there}
use Rattle.pbf_writer.proofs.ListsRead.{values_read, scalar_read}
use Rattle.pbf_writer.proofs.NodesRead.{ids_again, short_id, zero_small}
use Rattle.pbf_writer.proofs.Tables.{Has, word_at, place_small}

-- a way as it is written
abbrev pub way_message : ℕ → List (List ℕ) → OsmWay → Way
way_message place table way = record { place = place; id = Some (cast_unsigned w64 way.id); keys = map (λ tag. index_of table tag.key) way.tags; values = map (λ tag. index_of table tag.value) way.tags; refs = deltas (pos 0) way.refs; bad = None }

pub way_read : (bytes : List ℕ) (at : ℕ) (table : List (List ℕ)) (way : OsmWay) → AllByRecursion IsPart (way_parts table way) → drop at bytes ≡ way_text table way → way_of bytes at ≡ way_message at table way
unfolding way_of way_text
way_read bytes at table way good e =
    let parts = way_parts table way in
    let run = message_read parts bytes at good e in
    let id = scalar_read parts 1 at None in
    let keys = values_read parts 2 at bytes good (tt, (tt, (tt, (tt, tt)))) e in
    let values = values_read parts 3 at bytes good (tt, (tt, (tt, (tt, tt)))) e in
    let refs = values_read parts 8 at bytes good (tt, (tt, (tt, (tt, tt)))) e in
    rw (run, id, keys, values, refs, append-nil (map (λ tag. index_of table tag.key) way.tags), append-nil (map (λ tag. index_of table tag.value) way.tags), append-nil (deltas (pos 0) way.refs)) refl

tags_again : (place : ℕ) (table : List (List ℕ)) (tags : List OsmTag) → length table < 2 ^ 32 → AllByRecursion (Has table) (words_of tags) → tags_of place table (map (λ tag. index_of table tag.key) tags) (map (λ tag. index_of table tag.value) tags) ≡ Ok tags
tags_again place table [] few h = refl
tags_again place table (tag ∷ tags) few h =
    let key_small = place_small table tag.key h.0 in
    let value_small = place_small table tag.value h.1.0 in
    let key_kept : index_of table tag.key % 2 ^ 32 ≡ index_of table tag.key = omega arith in
    let value_kept : index_of table tag.value % 2 ^ 32 ≡ index_of table tag.value = omega arith in
    rw (key_kept, value_kept, word_at table tag.key h.0, word_at table tag.value h.1.0, tags_again place table tags few h.1.1) refl

id_again : (id : ℤ) → IsShort id → cast_signed w64 (cast_unsigned w64 id) ≡ id
id_again id h = to_z-of_z w64 id (fits_signed_from_abs w64 id (omega (arith, ints)))

pub way_again : (place : ℕ) (table : List (List ℕ)) (way : OsmWay) → length table < 2 ^ 32 → AllByRecursion (Has table) (words_of way.tags) → IsShort way.id → AllByRecursion IsShort way.refs → way_with table (way_message place table way) ≡ Ok way
unfolding way_with
way_again place table way few has id refs =
    let even : (length (map (λ tag. index_of table tag.key) way.tags) == length (map (λ tag. index_of table tag.value) way.tags)) ≡ true =
    eq-eqb _ _ (length-map way.tags (λ tag. index_of table tag.key) ∙ sym (length-map way.tags (λ tag. index_of table tag.value))) in
    rw (even, tags_again place table way.tags few has, id_again way.id id, short_id way.id id, ids_again place (pos 0) way.refs zero_small refs) refl

-- the messages that ways are from a place on
abbrev pub messages_at : ℕ → List (List ℕ) → List OsmWay → List Message
messages_at at table [] = []
messages_at at table (way ∷ ways) = message.Way (way_message (at + length (lead 3 (way_text table way))) table way) ∷ messages_at (at + length (bytes_field 3 (way_text table way))) table ways

-- ways that can be written with a table
pub record IsReadable (table : List (List ℕ)) (way : OsmWay) : Type 0 where
  pub parts : AllByRecursion IsPart (way_parts table way)
  pub has : AllByRecursion (Has table) (words_of way.tags)
  pub id : IsShort way.id
  pub refs : AllByRecursion IsShort way.refs

pub ways_read : (ways : List OsmWay) (table : List (List ℕ)) (pieces : List Piece) (first : Bool) (at : ℕ) (bytes : List ℕ) → AllByRecursion (IsReadable table) ways → drop at bytes ≡ message_text (map (λ way. Part.Bytes 3 (way_text table way)) ways) →
    messages_of bytes pieces first (spots_of at (map (λ way. Part.Bytes 3 (way_text table way)) ways)) ≡ record { messages = messages_at at table ways; bad = None }
unfolding message_in
ways_read [] table pieces first at bytes good e = refl
ways_read (way ∷ ways) table pieces first at bytes good e =
    let text = way_text table way in
    let tail = message_text (map (λ way. Part.Bytes 3 (way_text table way)) ways) in
    let here = way_read (take (at + length (bytes_field 3 text)) bytes) (at + length (lead 3 text)) table way good.0.parts (content_there bytes text tail 3 at e) in
    let more = ways_read ways table pieces (first && true) (at + length (bytes_field 3 text)) bytes good.1 (behind bytes (bytes_field 3 text) tail at e) in
    rw (here, more) refl

pub ways_again : (ways : List OsmWay) (table : List (List ℕ)) (scale : Scale) (s : GroupSoFar) (at : ℕ) → length table < 2 ^ 32 → AllByRecursion (IsReadable table) ways →
    messages_with table scale s (messages_at at table ways) ≡ Ok (record { map = record { nodes = s.map.nodes; ways = s.map.ways ++ ways }; dense = s.dense })
unfolding message_with
ways_again [] table scale s at few good = rw (append-nil s.map.ways) refl
ways_again (way ∷ ways) table scale s at few good =
    let here = way_again (at + length (lead 3 (way_text table way))) table way few good.0.has good.0.id good.0.refs in
    let more = ways_again ways table scale (record { map = record { nodes = s.map.nodes; ways = s.map.ways ++ way ∷ [] }; dense = s.dense }) (at + length (bytes_field 3 (way_text table way))) few good.1 in
    rw (here, more, append_assoc s.map.ways (way ∷ []) ways) refl
