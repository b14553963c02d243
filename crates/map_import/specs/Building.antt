-- What stands while edges are laid.
use Rattle.std.specs.Ordering.{int_eq}
use Rattle.std.specs.Prelude.{ℕ, ℤ, List, map, Option, Some, None, if◌then◌else◌, All, ◌≡◌, Bool, true, false, zero, suc, unwrap_or}
use Rattle.std.specs.List.{IsDistinct}
use Rattle.gh_base.specs.declared.map.Point.{Point}
use Rattle.base_graph.specs.Graphs.{Edge, Graph, points_along}
use Rattle.map_import.specs.Refusals.{Laid}
use Rattle.geo_math.specs.Lengths.{line_length}
use Rattle.map_import.specs.Roads.{place_at, number, is_numbered}

-- an edge is as long as its segments together
abbrev pub HasLength : Graph → Edge → Type 0
HasLength graph edge = edge.mm ≡ line_length (points_along graph edge)

abbrev pub number_of : List ℤ → ℤ → Option ℕ
number_of ids id = if is_numbered ids id then Some (number ids id) else None

-- the towers stand where their nodes do, each has its number and no other has one, and each edge is as long as its segments together
pub record IsBuilt (place : ℤ → Option Point) (graph : Graph) (ids : List ℤ) (kept : ℤ → Option ℕ) : Type 0 where
  pub places : graph.places ≡ map (place_at place) ids
  pub numbers : (id : ℤ) → kept id ≡ number_of ids id
  pub distinct : IsDistinct int_eq ids
  pub lengths : All (HasLength graph) graph.edges

-- what is laid so far
abbrev pub laid_as : List ℤ → Graph → Laid
laid_as ids graph = record { ids = ids; edges = graph.edges }

-- how a node is marked that stood so often: not at all, or whether it stood more than once
abbrev pub mark : ℕ → Option Bool
mark zero = None
mark (suc zero) = Some false
mark (suc (suc n)) = Some true

-- a node is marked as a tower
abbrev pub tower_by : (ℤ → Option Bool) → ℤ → Bool
tower_by marks id = unwrap_or (marks id) false
