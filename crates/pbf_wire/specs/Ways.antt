-- A Way: id=1 int64; keys=2, vals=3 packed uint32; refs=8 packed sint64 deltas (OSM wiki, "PBF Format": "Ways and relations").
use Rattle.std.specs.Prelude.{ℕ, ◌%◌, ◌^◌, pos, List, [], ◌∷◌, length, not, Option, None, Result, Ok, ◌==◌, slice_get}
use Rattle.std.specs.Int.{cast_signed, w64}
use Rattle.gh_base.specs.declared.kinds.PbfKind.{PbfKind}
use Rattle.gh_base.specs.declared.kinds.PbfKind.TheVariants.{Missing, Uneven, BadIndex, BadId}
use Rattle.gh_base.specs.declared.map.OsmTag.{OsmTag}
use Rattle.gh_base.specs.declared.map.OsmWay.{OsmWay}
use Rattle.pbf_wire.specs.declared.messages.Way.{Way}
use Rattle.pbf_wire.specs.Wire.{◌>>=◌}
use Rattle.pbf_wire.specs.Faults.{◌>>◌, refuse, or_fault}
use Rattle.pbf_wire.specs.Runs.{run_of, least}
use Rattle.pbf_wire.specs.Lists.{values_of}
use Rattle.pbf_wire.specs.Pieces.{scalar_of}
use Rattle.pbf_wire.specs.Deltas.{is_id, ids_from}

-- the way from a place to the end, as it is written
unfoldable pub way_of : List ℕ → ℕ → Way
way_of bytes at =
    let run = run_of bytes at in
    let keys = values_of bytes 2 run.fields in
    let values = values_of bytes 3 run.fields in
    let refs = values_of bytes 8 run.fields in
    record { place = at; id = scalar_of 1 None run.fields; keys = keys.values; values = values.values; refs = refs.values; bad = least run.bad (least keys.bad (least values.bad refs.bad)) }

-- a string of the table; a uint32 is the low 32 bits
abbrev pub text_at : List (List ℕ) → ℕ → Option (List ℕ)
text_at texts index = slice_get texts (index % 2 ^ 32)

-- keys and values side by side
abbrev pub tags_of : ℕ → List (List ℕ) → List ℕ → List ℕ → Result (List OsmTag) (ℕ × PbfKind)
tags_of place texts [] values = Ok []
tags_of place texts (key ∷ keys) [] = Ok []
tags_of place texts (key ∷ keys) (value ∷ values) = do
  k ← or_fault (text_at texts key) place BadIndex
  v ← or_fault (text_at texts value) place BadIndex
  tags ← tags_of place texts keys values
  Ok (record { key = k; value = v } ∷ tags)

-- the way that it says with these strings, or its first fault
unfoldable pub way_with : List (List ℕ) → Way → Result OsmWay (ℕ × PbfKind)
way_with texts way = do
  id ← or_fault way.id way.place Missing
  refuse (not (length way.keys == length way.values)) way.place Uneven
  tags ← tags_of way.place texts way.keys way.values
  refuse (not (is_id (cast_signed w64 id))) way.place BadId
  refs ← ids_from way.place (pos 0) way.refs
  Ok (record { id = cast_signed w64 id; tags = tags; refs = refs })
