-- The roads of a map, or the first refusal.
use Rattle.std.specs.Prelude.{nat_le, nat_lt, ℤ, Bool, not, if◌then◌else◌, List, [], ◌∷◌, ◌++◌, length, find, Option, Some, None, Result, Ok, Err, ◌≡◌, ◌≢◌}
use Rattle.std.specs.Option.{is_some}
use Rattle.gh_base.specs.declared.map.OsmMap.{OsmMap}
use Rattle.gh_base.specs.declared.map.OsmNode.{OsmNode}
use Rattle.gh_base.specs.declared.map.Point.{Point}
use Rattle.base_graph.specs.Graphs.{Edge}
use Rattle.geo_math.specs.Lengths.{line_length}
use Rattle.map_import.specs.Roads.{UsedWay, used_ways, is_tower, Piece, pieces_of, place_in, points_along, with_towers, edge_of}
use Rattle.map_import.specs.declared.faults.ImportFault.{ImportFault}
use Rattle.map_import.specs.declared.faults.ImportFault.TheVariants as fault

-- the ids of the towers by number, and the edges
pub record Laid : Type 0 where
  pub ids : List ℤ
  pub edges : List Edge

-- the first id of these nodes that stood before
abbrev pub twice_behind : List OsmNode → List OsmNode → Option ImportFault
twice_behind before [] = None
twice_behind before (node ∷ nodes) =
    if is_some (place_in before node.id) then Some (fault.TwiceNode node.id) else twice_behind (before ++ node ∷ []) nodes

abbrev pub first_twice : List OsmNode → Option ImportFault
first_twice nodes = twice_behind [] nodes

-- the first node of a list that isn't there
abbrev pub missing_of : (ℤ → Option Point) → List ℤ → Option ℤ
missing_of place refs = find (λ id. not (is_some (place id))) refs

abbrev pub missing_or : ℤ → Option ℤ → Option ImportFault → Option ImportFault
missing_or way None later = later
missing_or way (Some node) later = Some (fault.MissingNode way node)

-- the first node of used ways that isn't there
abbrev pub first_missing : (ℤ → Option Point) → List UsedWay → Option ImportFault
first_missing place [] = None
first_missing place (way ∷ ways) = missing_or way.id (missing_of place way.refs) (first_missing place ways)

-- one more edge, where its length in mm is at most 4294967295, and there are not yet 4000000 edges, and then at most 2000000 towers
abbrev pub lay_on : (ℤ → Option Point) → Laid → Piece → List ℤ → Result Laid ImportFault
lay_on place laid piece ids =
    if nat_lt 4294967295 (line_length (points_along place piece.refs)) then Err (fault.TooLong piece.way)
    else if nat_le 4000000 (length laid.edges) then Err fault.TooManyEdges
    else if nat_lt 2000000 (length ids) then Err fault.TooManyNodes
    else Ok (record { ids = ids; edges = laid.edges ++ edge_of place ids piece ∷ [] })

unfoldable pub lay : (ℤ → Option Point) → Laid → Piece → Result Laid ImportFault
lay place laid piece = lay_on place laid piece (with_towers laid.ids piece.refs)

abbrev pub and_then : Result Laid ImportFault → (Laid → Result Laid ImportFault) → Result Laid ImportFault
and_then (Ok laid) f = f laid
and_then (Err e) f = Err e

-- the edges of pieces in order, or the first refusal
abbrev pub lay_all : (ℤ → Option Point) → Laid → List Piece → Result Laid ImportFault
lay_all place laid [] = Ok laid
lay_all place laid (piece ∷ pieces) = and_then (lay place laid piece) (λ next. lay_all place next pieces)

abbrev pub nothing : Laid
nothing = record { ids = []; edges = [] }

-- a refusal comes before what would be else
abbrev pub unless : Option ImportFault → Result Laid ImportFault → Result Laid ImportFault
unless None laid = laid
unless (Some e) laid = Err e

abbrev pub roads_by : (ℤ → Option Point) → (ℤ → Bool) → List UsedWay → Result Laid ImportFault
roads_by place tower ways = unless (first_missing place ways) (lay_all place nothing (pieces_of tower ways))

-- the roads of a map, or the first refusal: an id that stands twice, then a node that isn't there, then edge by edge
unfoldable pub roads : OsmMap → Result Laid ImportFault
roads map = unless (first_twice map.nodes) (roads_by (place_in map.nodes) (is_tower (used_ways map.ways)) (used_ways map.ways))

-- what a refusal says of what there would be else: want of memory says nothing
abbrev pub Refuses : Result Laid ImportFault → ImportFault → Type 0
Refuses laid e = e ≢ fault.NoMemory → laid ≡ Err e
