use Rattle.std.specs.Ordering.{int_eq}
use Rattle.std.specs.HashMap.{get}
use Rattle.std.proofs.Common.{◌≡◌, ◌≤◌, drop, length, map}
use Rattle.map_import.specs.Roads.{piece_of, pieces_of_way, cut_from}
use Rattle.map_import.specs.Refusals.{lay_all}
use Rattle.map_import.specs.Building.{IsBuilt, laid_as, tower_by}
use Rattle.map_import.proofs.builder.Builder.lay_way.Given as goal

abbrev pub invariant-loop-id : goal.invariant-loop-id
invariant-loop-id l =
    (IsBuilt (get int_eq l.places) l.self.graph.lists l.self.ids (get int_eq l.self.numbers))
    × (lay_all (get int_eq l.places) (laid_as l.self.ids l.self.graph.lists) (map (piece_of l.way) (cut_from (tower_by (get int_eq l.towers)) l.piece.items (drop l.id-index l.rest)))
    ≡ lay_all (get int_eq l.places) (laid_as l.fn.self.ids l.fn.self.graph.lists) (pieces_of_way (tower_by (get int_eq l.towers)) l.way))
    × (1 ≤ length l.piece.items)
