use Rattle.std.specs.Ordering.{int_eq}
use Rattle.std.specs.HashMap.{get}
use Rattle.std.proofs.Common.{◌≡◌, ◌++◌, drop}
use Rattle.map_import.specs.Roads.{pieces_of, way_ids}
use Rattle.map_import.specs.Building.{tower_by}
use Rattle.map_import.proofs.origins.ways_of_edges.Given as goal

-- what is written, and the ways that are left
abbrev pub invariant-loop-way : goal.invariant-loop-way
invariant-loop-way l =
    let tower = tower_by (get int_eq l.towers) in
    l.ids ++ way_ids (pieces_of tower (drop l.way-index l.way-items)) ≡ way_ids (pieces_of tower l.way-items)
