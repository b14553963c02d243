use Rattle.std.specs.List.{sum_by}
use Rattle.std.proofs.Common.{◌≡◌, ◌≤◌, ◌*◌, ◌-◌, ◌^◌, take}
use Rattle.traffic_core.specs.Trips.{edge_mm}
use Rattle.map_roads.proofs.opening.walk_mm.Given as goal

-- an edge has less than 2^32 mm
abbrev pub invariant-loop-hop : goal.invariant-loop-hop
invariant-loop-hop l = (l.mm ≡ sum_by (edge_mm l.graph.lists) (take l.hop-index l.hops)) × (l.mm ≤ l.hop-index * (2 ^ 32 - 1))
