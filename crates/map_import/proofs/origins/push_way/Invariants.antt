use Rattle.std.specs.Ordering.{int_eq}
use Rattle.std.specs.HashMap.{get}
use Rattle.std.proofs.Common.{◌≡◌, ◌++◌, drop}
use Rattle.map_import.specs.Roads.{pieces_of_way, way_ids}
use Rattle.map_import.specs.Building.{tower_by}
use Rattle.map_import.proofs.WaysOfPieces.{ends_in}
use Rattle.map_import.proofs.origins.push_way.Given as goal

-- what is written, and the pieces that end at the nodes that are left
abbrev pub invariant-loop-id : goal.invariant-loop-id
invariant-loop-id l =
    let tower = tower_by (get int_eq l.towers) in
    l.ids ++ ends_in tower l.way.id (drop l.id-index l.rest) ≡ l.fn.ids ++ way_ids (pieces_of_way tower l.way)
