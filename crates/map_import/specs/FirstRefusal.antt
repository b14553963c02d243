-- Which piece is refused first, and why, in other words than by laying one after another.
use Rattle.std.specs.Prelude.{ℕ, ℤ, ◌<◌, ◌≤◌, ◌≡◌, ◌⊎◌, List, [], ◌∷◌, ◌++◌, length, Option}
use Rattle.gh_base.specs.declared.map.Point.{Point}
use Rattle.map_import.specs.declared.faults.ImportFault.{ImportFault}
use Rattle.map_import.specs.declared.faults.ImportFault.TheVariants as fault
use Rattle.geo_math.specs.Lengths.{line_length}
use Rattle.map_import.specs.Roads.{Piece, points_along, towers_in_order}

-- an edge of so many mm can stand behind so many edges, where there are so many towers then
pub record Fits (mm count towers : ℕ) : Type 0 where
  pub short : mm ≤ 4294967295
  pub few_edges : count < 4000000
  pub few_towers : towers ≤ 2000000

-- else it can't, for the first of these three that applies
abbrev pub IsRefusedFor : ℤ → ℕ → ℕ → ℕ → ImportFault → Type 0
IsRefusedFor way mm count towers e =
    ((4294967295 < mm) × (e ≡ fault.TooLong way))
    ⊎ (((mm ≤ 4294967295) × (4000000 ≤ count) × (e ≡ fault.TooManyEdges))
    ⊎ ((mm ≤ 4294967295) × (count < 4000000) × (2000000 < towers) × (e ≡ fault.TooManyNodes)))

-- the length of a piece in mm
abbrev pub piece_length : (ℤ → Option Point) → Piece → ℕ
piece_length place piece = line_length (points_along place piece.refs)

-- how many towers these pieces and one more have
abbrev pub towers_with : List Piece → Piece → ℕ
towers_with before piece = length (towers_in_order (before ++ piece ∷ []))

-- each of these pieces can stand behind those before it
abbrev pub AllFit : (ℤ → Option Point) → List Piece → Type 0
AllFit place pieces = (before : List Piece) (piece : Piece) (behind : List Piece) → pieces ≡ before ++ piece ∷ behind
    → Fits (piece_length place piece) (length before) (towers_with before piece)

-- the pieces of some front can all stand, and the next can't, for this reason
pub record IsFirstRefusal (place : ℤ → Option Point) (pieces : List Piece) (e : ImportFault) : Type 0 where
  pub before : List Piece
  pub piece : Piece
  pub behind : List Piece
  pub parts : pieces ≡ before ++ piece ∷ behind
  pub fit : AllFit place before
  pub refused : IsRefusedFor piece.way (piece_length place piece) (length before) (towers_with before piece) e
