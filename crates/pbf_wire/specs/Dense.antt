-- DenseNodes: id=1, lat=8, lon=9 packed sint64 deltas; keys_vals=10 packed int32 (OSM wiki, "PBF Format": "Nodes").
use Rattle.std.specs.Prelude.{ℕ, ◌%◌, ◌^◌, zero, suc, ℤ, pos, List, [], ◌∷◌, length, Bool, false, not, ◌&&◌, ◌||◌, Option, Some, None, Result, Ok, ◌==◌, if◌then◌else◌}
use Rattle.gh_base.specs.declared.kinds.PbfKind.{PbfKind}
use Rattle.gh_base.specs.declared.kinds.PbfKind.TheVariants.{Uneven, OddKeys}
use Rattle.gh_base.specs.declared.map.OsmNode.{OsmNode}
use Rattle.pbf_wire.specs.declared.fields.Piece.{Piece}
use Rattle.pbf_wire.specs.declared.messages.Dense.{Dense}
use Rattle.pbf_wire.specs.declared.messages.Scale.{Scale}
use Rattle.pbf_wire.specs.Wire.{◌>>=◌}
use Rattle.pbf_wire.specs.Faults.{◌>>◌, refuse}
use Rattle.pbf_wire.specs.Runs.{run_of, least}
use Rattle.pbf_wire.specs.Lists.{values_of}
use Rattle.pbf_wire.specs.Pieces.{joined_of, placed}
use Rattle.pbf_wire.specs.Deltas.{ids_from, coordinates_from}
use Rattle.pbf_wire.specs.Nodes.{lat_axis, lon_axis}

-- the dense nodes in these stretches, as one message at a place, as they are written
unfoldable pub dense_of : List ℕ → List Piece → ℕ → Dense
dense_of bytes pieces place =
    let content = joined_of bytes pieces in
    let run = run_of content 0 in
    let ids = values_of content 1 run.fields in
    let lats = values_of content 8 run.fields in
    let lons = values_of content 9 run.fields in
    let tags = values_of content 10 run.fields in
    record { place = place; ids = ids.values; lats = lats.values; lons = lons.values; tags = tags.values; bad = placed pieces (least run.bad (least ids.bad (least lats.bad (least lons.bad tags.bad)))) }

-- what follows the tags of one node: pairs of numbers whose first isn't 0, ended by one 0
abbrev pub after_tags : List ℕ → Option (List ℕ)
after_tags [] = None
after_tags (key ∷ []) = if key % 2 ^ 32 == 0 then Some [] else None
after_tags (key ∷ value ∷ more) = if key % 2 ^ 32 == 0 then Some (value ∷ more) else after_tags more

abbrev pub and_then : Option (List ℕ) → (List ℕ → Bool) → Bool
and_then None test = false
and_then (Some rest) test = test rest

-- whether these are the tags of so many nodes, and no more
abbrev pub tags_fit : ℕ → List ℕ → Bool
tags_fit zero numbers = length numbers == 0
tags_fit (suc count) numbers = and_then (after_tags numbers) (tags_fit count)

-- ids and coordinates side by side
abbrev pub nodes_of : List ℤ → List ℤ → List ℤ → List OsmNode
nodes_of [] lats lons = []
nodes_of (id ∷ ids) [] lons = []
nodes_of (id ∷ ids) (lat ∷ lats) [] = []
nodes_of (id ∷ ids) (lat ∷ lats) (lon ∷ lons) = record { id = id; place = record { lat = lat; lon = lon } } ∷ nodes_of ids lats lons

-- the nodes that it says, or its first fault
unfoldable pub dense_with : Scale → Dense → Result (List OsmNode) (ℕ × PbfKind)
dense_with scale dense = do
  refuse (not (length dense.ids == length dense.lats) || not (length dense.ids == length dense.lons)) dense.place Uneven
  refuse (not (length dense.tags == 0) && not (tags_fit (length dense.ids) dense.tags)) dense.place OddKeys
  ids ← ids_from dense.place (pos 0) dense.ids
  lats ← coordinates_from dense.place (lat_axis scale) (pos 0) dense.lats
  lons ← coordinates_from dense.place (lon_axis scale) (pos 0) dense.lons
  Ok (nodes_of ids lats lons)
