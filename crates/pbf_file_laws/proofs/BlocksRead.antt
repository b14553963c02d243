-- Blocks are read: strings, scale and groups.
use Rattle.std.proofs.Common.{◌≡◌, ◌∙◌, ℕ, ℤ, List, [], ◌∷◌, ◌++◌, length, take, IsUtf8, Option, Some, None, Ok, Bool, true, false, refl, sym, ap, append_assoc, append-nil}
use Rattle.std.specs.Prelude.{◌==◌, unwrap_or, if◌then◌else◌}
use Rattle.std.specs.List.{AllByRecursion}
use Rattle.std.specs.Int.{cast_signed, w64}
use Rattle.std.specs.Str.Lossy.{utf8_valid_len}
use Rattle.std.proofs.lemmas.Bool.{eq-eqb, and_right}
use Rattle.std.proofs.lemmas.Str.{utf8_valid_len-IsUtf8}
use Rattle.gh_base.specs.declared.map.OsmMap.{OsmMap}
use Rattle.pbf_wire.specs.declared.fields.Spot.{Spot}
use Rattle.pbf_wire.specs.declared.fields.Piece.{Piece}
use Rattle.pbf_wire.specs.declared.messages.Scale.{Scale}
use Rattle.pbf_wire.specs.declared.messages.Groups.{Groups}
use Rattle.pbf_wire.specs.Pieces.{is_bytes, pieces_of, part_of}
use Rattle.pbf_wire.specs.Blocks.{groups_of, block_of, text_in, texts_in, granularity_of, groups_with, block_with}
use Rattle.pbf_file_laws.specs.Messages.{Value, Entry}
use Rattle.pbf_file_laws.specs.Saying.{scalar, content_in, contents, joined, Pairwise}
use Rattle.pbf_file_laws.specs.Reading.{Stands, IsValueAt, AreFields, IsRun}
use Rattle.pbf_file_laws.specs.Blocks.{IsGroup, plus, together, IsGranularity, IsOffset, BlocksAreRead}
use Rattle.pbf_file_laws.proofs.Runs.{message_read}
use Rattle.pbf_file_laws.proofs.Says.{no_bytes, and_true, part_stands, scalar_read, joined_read}
use Rattle.pbf_file_laws.proofs.Numbers.{int32_read, int64_read}
use Rattle.pbf_file_laws.proofs.GroupsRead.{group_read}

text_there : (bytes : List ℕ) → IsUtf8 bytes → text_in bytes ≡ Some bytes
text_there bytes h = rw (eq-eqb (utf8_valid_len bytes) (length bytes) (utf8_valid_len-IsUtf8 bytes h)) refl

-- a field of bytes is one of a number where its number is that
bytes_when : (number n : ℕ) (spot : Spot) → spot.field.number ≡ n → spot.field.wire ≡ 2 → is_bytes number spot ≡ (n == number)
bytes_when number n spot e w = rw (e, w) (and_true (n == number))

text_by : (t : Bool) (table content : List ℕ) (pieces : List Piece) (spot : Spot) (spots : List Spot) (rest : List (List ℕ)) → is_bytes 1 spot ≡ t → Stands (take spot.field.end table) spot.field.start content →
    AllByRecursion IsUtf8 ((if t then content ∷ [] else []) ++ rest) → (AllByRecursion IsUtf8 rest → texts_in table pieces spots ≡ Ok rest) → texts_in table pieces (spot ∷ spots) ≡ Ok ((if t then content ∷ [] else []) ++ rest)
text_by true table content pieces spot spots rest is stands good more =
    let part : part_of table spot.field.start spot.field.end ≡ content = part_stands (take spot.field.end table) content spot.field.start stands in
    rw (is, part, text_there content good.0, more good.1) refl
text_by false table content pieces spot spots rest is stands good more = rw (is, more good) refl

no_text_by : (t : Bool) (table : List ℕ) (pieces : List Piece) (spot : Spot) (spots : List Spot) (rest : List (List ℕ)) → is_bytes 1 spot ≡ false →
    AllByRecursion IsUtf8 ((if t then no_bytes else []) ++ rest) → (AllByRecursion IsUtf8 rest → texts_in table pieces spots ≡ Ok rest) → texts_in table pieces (spot ∷ spots) ≡ Ok ((if t then no_bytes else []) ++ rest)
no_text_by true table pieces spot spots rest is good more = rw (is, more good) refl
no_text_by false table pieces spot spots rest is good more = rw (is, more good) refl

text_step : (table : List ℕ) (pieces : List Piece) (n : ℕ) (value : Value) (spot : Spot) (spots : List Spot) (rest : List (List ℕ)) → spot.field.number ≡ n → IsValueAt table spot.field value →
    AllByRecursion IsUtf8 ((if n == 1 then content_in value else []) ++ rest) → (AllByRecursion IsUtf8 rest → texts_in table pieces spots ≡ Ok rest) → texts_in table pieces (spot ∷ spots) ≡ Ok ((if n == 1 then content_in value else []) ++ rest)
text_step table pieces n (Value.Varint groups) spot spots rest e is good more = no_text_by (n == 1) table pieces spot spots rest (and_right (spot.field.number == 1) (spot.field.wire == 2) (rw is.0 refl)) good more
text_step table pieces n (Value.Eight eight) spot spots rest e is good more = no_text_by (n == 1) table pieces spot spots rest (and_right (spot.field.number == 1) (spot.field.wire == 2) (rw is refl)) good more
text_step table pieces n (Value.Bytes size content) spot spots rest e is good more = text_by (n == 1) table content pieces spot spots rest (bytes_when 1 n spot e is.0) is.2 good more
text_step table pieces n (Value.Four four) spot spots rest e is good more = no_text_by (n == 1) table pieces spot spots rest (and_right (spot.field.number == 1) (spot.field.wire == 2) (rw is refl)) good more

texts_read : (table : List ℕ) (pieces : List Piece) (spots : List Spot) (entries : List Entry) → AreFields table spots entries → AllByRecursion IsUtf8 (contents 1 entries) → texts_in table pieces spots ≡ Ok (contents 1 entries)
texts_read table pieces [] [] are good = refl
texts_read table pieces [] (entry ∷ entries) are good = absurd are
texts_read table pieces (spot ∷ spots) [] are good = absurd are
texts_read table pieces (spot ∷ spots) (entry ∷ entries) are good =
    text_step table pieces entry.number entry.value spot spots (contents 1 entries) are.0.number are.0.value good (λ rest. texts_read table pieces spots entries are.1 rest)

-- groups that add these parts to a map
record GroupsAdd (texts : List (List ℕ)) (scale : Scale) (m : OsmMap) (groups : Groups) (parts : List OsmMap) : Type 0 where
  fine : groups.bad ≡ None
  adds : groups_with texts scale m groups.groups ≡ Ok (plus m (together parts))

module _ (texts : List (List ℕ)) (scale : Scale) (bytes : List ℕ) (spots : List Spot) (rest : List (List ℕ)) where
  abbrev Behind : Type 0
  Behind = (m : OsmMap) (parts : List OsmMap) → Pairwise (IsGroup texts scale) rest parts → GroupsAdd texts scale m (groups_of bytes spots) parts

  group_by : (t : Bool) (m : OsmMap) (content : List ℕ) (spot : Spot) (parts : List OsmMap) → is_bytes 2 spot ≡ t → Stands (take spot.field.end bytes) spot.field.start content →
      Pairwise (IsGroup texts scale) ((if t then content ∷ [] else []) ++ rest) parts → Behind → GroupsAdd texts scale m (groups_of bytes (spot ∷ spots)) parts
  group_by true m content spot [] is stands are behind = absurd are
  group_by true m content spot (part ∷ parts) is stands are behind =
      let read = group_read texts scale m (take spot.field.end bytes) content spot.field.start part stands are.0 in
      let more = behind (plus m part) parts are.1 in
      record {
        fine = rw (is, read.0, more.fine) refl;
        adds = rw (is, read.1, more.adds, append_assoc m.nodes part.nodes (together parts).nodes, append_assoc m.ways part.ways (together parts).ways) refl;
      }
  group_by false m content spot parts is stands are behind =
      let more = behind m parts are in
      record { fine = rw is more.fine; adds = rw is more.adds }

  no_group_by : (t : Bool) (m : OsmMap) (spot : Spot) (parts : List OsmMap) → is_bytes 2 spot ≡ false →
      Pairwise (IsGroup texts scale) ((if t then no_bytes else []) ++ rest) parts → Behind → GroupsAdd texts scale m (groups_of bytes (spot ∷ spots)) parts
  no_group_by true m spot parts is are behind =
      let more = behind m parts are in
      record { fine = rw is more.fine; adds = rw is more.adds }
  no_group_by false m spot parts is are behind =
      let more = behind m parts are in
      record { fine = rw is more.fine; adds = rw is more.adds }

  group_step : (n : ℕ) (value : Value) (m : OsmMap) (spot : Spot) (parts : List OsmMap) → spot.field.number ≡ n → IsValueAt bytes spot.field value →
      Pairwise (IsGroup texts scale) ((if n == 2 then content_in value else []) ++ rest) parts → Behind → GroupsAdd texts scale m (groups_of bytes (spot ∷ spots)) parts
  group_step n (Value.Varint groups) m spot parts e is are behind = no_group_by (n == 2) m spot parts (and_right (spot.field.number == 2) (spot.field.wire == 2) (rw is.0 refl)) are behind
  group_step n (Value.Eight eight) m spot parts e is are behind = no_group_by (n == 2) m spot parts (and_right (spot.field.number == 2) (spot.field.wire == 2) (rw is refl)) are behind
  group_step n (Value.Bytes size content) m spot parts e is are behind = group_by (n == 2) m content spot parts (bytes_when 2 n spot e is.0) is.2 are behind
  group_step n (Value.Four four) m spot parts e is are behind = no_group_by (n == 2) m spot parts (and_right (spot.field.number == 2) (spot.field.wire == 2) (rw is refl)) are behind

groups_read : (texts : List (List ℕ)) (scale : Scale) (bytes : List ℕ) (m : OsmMap) (spots : List Spot) (entries : List Entry) (parts : List OsmMap) → AreFields bytes spots entries → Pairwise (IsGroup texts scale) (contents 2 entries) parts → GroupsAdd texts scale m (groups_of bytes spots) parts
groups_read texts scale bytes m [] [] [] are h = record { fine = refl; adds = rw (append-nil m.nodes, append-nil m.ways) refl }
groups_read texts scale bytes m [] [] (part ∷ parts) are h = absurd h
groups_read texts scale bytes m [] (entry ∷ entries) parts are h = absurd are
groups_read texts scale bytes m (spot ∷ spots) [] parts are h = absurd are
groups_read texts scale bytes m (spot ∷ spots) (entry ∷ entries) parts are h =
    group_step texts scale bytes spots (contents 2 entries) entry.number entry.value m spot parts are.0.number are.0.value h (λ n more rest. groups_read texts scale bytes n spots entries more are.1 rest)

granularity_read : (o : Option ℕ) (z : ℤ) → IsGranularity o z → granularity_of o ≡ z
granularity_read None z h = sym h
granularity_read (Some number) z h = int32_read number z h

offset_read : (o : Option ℕ) (z : ℤ) → IsOffset o z → cast_signed w64 (unwrap_or o 0) ≡ z
offset_read None z h = sym h
offset_read (Some number) z h = int64_read number z h

-- a block as it is read
block_is : (bytes : List ℕ) (at : ℕ) (entries table : List Entry) (run : IsRun bytes at entries) (strings : IsRun (joined (contents 1 entries)) 0 table) → (groups_of bytes run.spots).bad ≡ None →
    block_of bytes at ≡ record {
      table = joined (contents 1 entries);
      pieces = pieces_of 1 run.spots;
      strings = strings.spots;
      granularity = scalar 17 entries;
      lat_offset = scalar 19 entries;
      lon_offset = scalar 20 entries;
      groups = (groups_of bytes run.spots).groups;
      bad = None;
    }
unfolding block_of
block_is bytes at entries table run strings fine =
    let joins = joined_read bytes 1 run.spots entries run.are in
    let granularity = scalar_read bytes 17 run.spots entries run.are in
    let lat = scalar_read bytes 19 run.spots entries run.are in
    let lon = scalar_read bytes 20 run.spots entries run.are in
    rw (run.read, joins, strings.read, granularity, lat, lon, fine) refl

pub block_read : BlocksAreRead
unfolding block_with
block_read file content m piece part stands h =
    let bytes = take piece.end file in
    let run = message_read bytes content piece.start h.entries stands h.written in
    let strings = message_read (joined (contents 1 h.entries)) (joined (contents 1 h.entries)) 0 h.table.entries (record { before = []; whole = refl; place = refl }) h.table.written in
    let groups = groups_read h.texts h.scale bytes m run.spots h.entries h.groups run.are h.groups_are in
    let block = block_is bytes piece.start h.entries h.table.entries run strings groups.fine in
    let texts : texts_in (joined (contents 1 h.entries)) (pieces_of 1 run.spots) strings.spots ≡ Ok h.texts =
    texts_read (joined (contents 1 h.entries)) (pieces_of 1 run.spots) strings.spots h.table.entries strings.are h.table.are ∙ ap (λ (ts : List (List ℕ)). Ok ts) (sym h.table.strings) in
    rw (block, texts, granularity_read (scalar 17 h.entries) h.scale.granularity h.granularity, offset_read (scalar 19 h.entries) h.scale.lat_offset h.lat_offset, offset_read (scalar 20 h.entries) h.scale.lon_offset h.lon_offset, groups.adds, h.all) refl
