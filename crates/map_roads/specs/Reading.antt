-- Roads that are those of a map's bytes.
use Rattle.std.specs.Prelude.{◌≡◌, ℕ, List, Ok, Err, ℤ}
use Rattle.std.specs.List.{IsDistinct}
use Rattle.std.specs.Ordering.{int_eq}
use Rattle.gh_base.specs.declared.kinds.Form.{Form}
use Rattle.gh_base.specs.declared.map.OsmMap.{OsmMap}
use Rattle.map_import.specs.Roads.{place_in, points_along, ways_of_edges}
use Rattle.map_import.specs.Refusals.{roads}
use Rattle.map_import.specs.Building.{laid_as}
use Rattle.traffic_core.specs.Lands.{AreAsLong}
use Rattle.map_import.specs.declared.roads.Roads.{Roads}
use Rattle.map_roads.specs.declared.status.MapFault.TheVariants as fault
use Rattle.map_roads.specs.declared.status.Status.{Status}
use Rattle.map_roads.specs.declared.status.Status.TheVariants as status
use Rattle.map_roads.specs.Statuses.{ReadsAs}

-- roads as import gives them are those of a map
pub record AreRoadsIn (map : OsmMap) (found : Roads) : Type 0 where
  pub laid : roads map ≡ Ok (laid_as found.ids found.graph.lists)
  pub places : found.graph.lists.places ≡ points_along (place_in map.nodes) found.ids
  pub distinct : IsDistinct int_eq found.ids
  pub lengths : AreAsLong found.graph.lists

-- of the map that these bytes are in a form
pub record AreRoadsRead (form : Form) (held : List ℕ) (found : Roads) : Type 0 where
  pub map : OsmMap
  pub reads_as : ReadsAs form held map
  pub roads_are : AreRoadsIn map found

-- a refusal to import a map, or want of memory
abbrev pub IsRefusedFor : OsmMap → Status → Type 0
IsRefusedFor map status.NoMemory = Unit {0}
IsRefusedFor map (status.BadMap (fault.Import refusal)) = roads map ≡ Err refusal
IsRefusedFor map other = ⊥

-- roads are those of the map that these bytes are in a form, and ways are those of its edges
pub record AreRoadsAndWays (form : Form) (held : List ℕ) (found : Roads) (ways : List ℤ) : Type 0 where
  pub map : OsmMap
  pub reads_as : ReadsAs form held map
  pub roads_are : AreRoadsIn map found
  pub ways_are : ways ≡ ways_of_edges map
