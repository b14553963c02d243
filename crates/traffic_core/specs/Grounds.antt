-- What a ground keeps to find places by.
use Rattle.std.specs.Prelude.{◌≡◌, ℕ, ℤ, ◌<◌, ◌≤◌, false, List, length, Option}
use Rattle.std.specs.List.{AllZip}
use Rattle.base_graph.specs.Graphs.{Graph}
use Rattle.location_grid.specs.Bits.{has_bit}
use Rattle.location_grid.specs.Grids.{IsGridOf}
use Rattle.location_grid.specs.declared.edge_bits.EdgeBits.{EdgeBits}
use Rattle.location_grid.specs.declared.grid.Grid.{Grid}
use Rattle.weighting.specs.declared.profile.Profile.{Profile}
use Rattle.weighting.specs.Roads.{is_usable}
use Rattle.traffic_core.specs.Lands.{Land, IsLand, IsIndexOf, rule_alone}

-- a set of just the edges that can be used under a profile alone
pub record AreUsable (graph : Graph) (profile : Profile) (bits : EdgeBits) : Type 0 where
  pub edges : bits.edges ≡ length graph.edges
  pub has : (edge : ℕ) → edge < length graph.edges → has_bit bits.words.items edge ≡ is_usable (rule_alone profile) graph edge

-- the numbers of the towers by their ids, the grid, and the edges that can be used by profile
pub record IsGround (land : Land) (number_of : ℤ → Option ℕ) (grid : Grid) (usable : List EdgeBits) : Type 0 where
  pub land_is : IsLand land
  pub numbers : IsIndexOf land.ids number_of
  pub grid_is : IsGridOf land.graph grid
  pub usable_are : AllZip (AreUsable land.graph) land.profiles usable

-- the same for the edges below a number, and none of the others
pub record AreUsableBelow (graph : Graph) (profile : Profile) (number : ℕ) (bits : EdgeBits) : Type 0 where
  pub edges : bits.edges ≡ length graph.edges
  pub has : (edge : ℕ) → edge < number → has_bit bits.words.items edge ≡ is_usable (rule_alone profile) graph edge
  pub rest : (edge : ℕ) → number ≤ edge → has_bit bits.words.items edge ≡ false
