-- What queries run over: roads, the id of each of their towers, and profiles.
use Rattle.std.specs.Prelude.{◌≡◌, ℕ, ℤ, ◌<◌, List, length, All, Option, Some, None, Ok, IsSome, slice_get}
use Rattle.std.specs.List.{IsDistinct}
use Rattle.std.specs.Ordering.{int_eq}
use Rattle.gh_base.specs.declared.map.OsmMap.{OsmMap}
use Rattle.base_graph.specs.Graphs.{Graph, IsGraph, edge_at, points_of}
use Rattle.map_import.specs.declared.roads.Roads.{Roads}
use Rattle.map_import.specs.Roads.{place_in, points_along}
use Rattle.map_import.specs.Refusals.{roads}
use Rattle.map_import.specs.Building.{laid_as}
use Rattle.geo_math.specs.Lengths.{line_length}
use Rattle.model_eval.specs.Models.{IsModel}
use Rattle.model_eval.specs.declared.custom_model.CustomModel.{CustomModel}
use Rattle.weighting.specs.declared.profile.Profile.{Profile}
use Rattle.weighting.specs.Profiles.{profile_at}
use Rattle.weighting.specs.Rules.{Rule}

-- the roads, the OpenStreetMap id of each tower by number, and the profiles by number
pub record Land : Type 0 where
  pub graph : Graph
  pub ids : List ℤ
  pub profiles : List Profile

-- each edge is as long as its segments together
abbrev pub AreAsLong : Graph → Type 0
AreAsLong graph = (edge : ℕ) → edge < length graph.edges → (edge_at graph.edges edge).mm ≡ line_length (points_of graph edge)

-- each tower has an id of its own, there is a profile, and each profile's model is one
pub record IsLand (land : Land) : Type 0 where
  pub graph : IsGraph land.graph
  pub lengths : AreAsLong land.graph
  pub ids : length land.ids ≡ length land.graph.places
  pub distinct : IsDistinct int_eq land.ids
  pub some : 0 < length land.profiles
  pub models : All (λ (profile : Profile). IsModel profile.model) land.profiles

-- the tower of an id
abbrev pub IsTower : Land → ℤ → ℕ → Type 0
IsTower land id node = slice_get land.ids node ≡ Some id

-- a profile with a query's model
abbrev pub rule_of : Land → ℕ → CustomModel → Rule
rule_of land profile model = record {
  vehicle = (profile_at land.profiles profile).vehicle;
  profile = (profile_at land.profiles profile).model;
  query = Some model;
}

-- a profile without one
abbrev pub rule_alone : Profile → Rule
rule_alone profile = record { vehicle = profile.vehicle; profile = profile.model; query = None }

-- what roads and profiles are together
abbrev pub land_of : Roads → List Profile → Land
land_of roads profiles = record { graph = roads.graph.lists; ids = roads.ids; profiles = profiles }

-- no tower has the id
abbrev pub IsNoTower : Land → ℤ → Type 0
IsNoTower land id = (node : ℕ) → IsTower land id node → ⊥

-- a number for each id that stands in a list, at which it stands there
pub record IsIndexOf (ids : List ℤ) (number_of : ℤ → Option ℕ) : Type 0 where
  pub found : (id : ℤ) (number : ℕ) → number_of id ≡ Some number → slice_get ids number ≡ Some id
  pub each : (id : ℤ) (number : ℕ) → slice_get ids number ≡ Some id → IsSome (number_of id)

-- the roads of a map: its towers and edges, each tower at the place of its node
pub record AreRoadsOf (map : OsmMap) (land : Land) : Type 0 where
  pub graph : IsGraph land.graph
  pub laid : roads map ≡ Ok (laid_as land.ids land.graph)
  pub places : land.graph.places ≡ points_along (place_in map.nodes) land.ids
