-- A file: Blobs one behind another, the first an OSMHeader (OSM wiki, "PBF Format": "File format").
use Rattle.std.specs.Prelude.{ℕ, ◌+◌, zero, suc, List, [], length, Bool, true, false, Result, Ok, Err, nat_lt, if◌then◌else◌}
use Rattle.gh_base.specs.declared.kinds.PbfKind.{PbfKind}
use Rattle.gh_base.specs.declared.kinds.PbfKind.TheVariants.{NoHeader}
use Rattle.gh_base.specs.declared.map.OsmMap.{OsmMap}
use Rattle.pbf_wire.specs.Wire.{◌>>=◌}
use Rattle.pbf_wire.specs.Blobs.{header_at, blob_with}

-- a map where the file ends: there was a Blob before
abbrev pub at_end : Bool → ℕ → OsmMap → Result OsmMap (ℕ × PbfKind)
at_end first at m = if first then Err (at, NoHeader) else Ok m

-- a map with the Blobs from a place on, at most so many; whether none came before them
abbrev pub blobs_from : ℕ → List ℕ → Bool → OsmMap → ℕ → Result OsmMap (ℕ × PbfKind)
blobs_from zero file first m at = at_end first at m
blobs_from (suc most) file first m at =
    if nat_lt at (length file) then
    (header_at file first at >>= λ header. blob_with file m header >>= λ n. blobs_from most file false n (header.end + header.datasize))
    else at_end first at m

-- the map that these bytes are, or their first fault; a Blob takes at least four bytes
unfoldable pub reads : List ℕ → Result OsmMap (ℕ × PbfKind)
reads file = blobs_from (length file) file true (record { nodes = []; ways = [] }) 0
