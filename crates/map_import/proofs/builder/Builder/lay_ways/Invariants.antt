use Rattle.std.specs.Ordering.{int_eq}
use Rattle.std.specs.HashMap.{get}
use Rattle.std.proofs.Common.{◌≡◌, drop}
use Rattle.map_import.specs.Roads.{pieces_of}
use Rattle.map_import.specs.Refusals.{lay_all}
use Rattle.map_import.specs.Building.{IsBuilt, laid_as, tower_by}
use Rattle.map_import.proofs.builder.Builder.lay_ways.Given as goal

abbrev pub invariant-loop-way : goal.invariant-loop-way
invariant-loop-way l =
    (IsBuilt (get int_eq l.places) l.self.graph.lists l.self.ids (get int_eq l.self.numbers))
    × (lay_all (get int_eq l.places) (laid_as l.self.ids l.self.graph.lists) (pieces_of (tower_by (get int_eq l.towers)) (drop l.way-index l.ways))
    ≡ lay_all (get int_eq l.places) (laid_as l.fn.self.ids l.fn.self.graph.lists) (pieces_of (tower_by (get int_eq l.towers)) l.ways))
