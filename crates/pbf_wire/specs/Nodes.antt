-- A Node: id=1, lat=8, lon=9, each sint64 (OSM wiki, "PBF Format": "Nodes").
use Rattle.std.specs.Prelude.{ℕ, List, None, not, Result, Ok}
use Rattle.gh_base.specs.declared.kinds.PbfKind.{PbfKind}
use Rattle.gh_base.specs.declared.kinds.PbfKind.TheVariants.{Missing, BadId, BadPlace}
use Rattle.gh_base.specs.declared.map.OsmNode.{OsmNode}
use Rattle.gh_base.specs.Places.{most_lat, most_lon}
use Rattle.pbf_wire.specs.declared.messages.Node.{Node}
use Rattle.pbf_wire.specs.declared.messages.Scale.{Scale}
use Rattle.pbf_wire.specs.declared.messages.Axis.{Axis}
use Rattle.pbf_wire.specs.Wire.{◌>>=◌}
use Rattle.pbf_wire.specs.Faults.{◌>>◌, refuse, or_fault}
use Rattle.pbf_wire.specs.Runs.{run_of}
use Rattle.pbf_wire.specs.Pieces.{scalar_of}
use Rattle.pbf_wire.specs.Deltas.{zigzag_of, is_id, coordinate_of}

-- the node from a place to the end, as it is written
unfoldable pub node_of : List ℕ → ℕ → Node
node_of bytes at =
    let run = run_of bytes at in
    record { place = at; id = scalar_of 1 None run.fields; lat = scalar_of 8 None run.fields; lon = scalar_of 9 None run.fields; bad = run.bad }

-- latitudes: to 90 degrees
abbrev pub lat_axis : Scale → Axis
lat_axis scale = record { granularity = scale.granularity; offset = scale.lat_offset; most = most_lat }

-- longitudes: to 180 degrees
abbrev pub lon_axis : Scale → Axis
lon_axis scale = record { granularity = scale.granularity; offset = scale.lon_offset; most = most_lon }

-- the node that it says, or its first fault
unfoldable pub node_with : Scale → Node → Result OsmNode (ℕ × PbfKind)
node_with scale node = do
  id ← or_fault node.id node.place Missing
  lat ← or_fault node.lat node.place Missing
  lon ← or_fault node.lon node.place Missing
  refuse (not (is_id (zigzag_of id))) node.place BadId
  y ← or_fault (coordinate_of (lat_axis scale) (zigzag_of lat)) node.place BadPlace
  x ← or_fault (coordinate_of (lon_axis scale) (zigzag_of lon)) node.place BadPlace
  Ok (record { id = zigzag_of id; place = record { lat = y; lon = x } })
