-- Directed edges by number.
use Rattle.std.specs.Prelude.{ℕ, Bool}
use Rattle.gh_base.specs.declared.edges.DirEdge.{DirEdge}
use Rattle.traffic_core.specs.Trips.{along}

-- an edge by number, in a direction
abbrev pub by_number : ℕ → Bool → DirEdge
by_number edge reverse = along (record { 0 = edge }) reverse
