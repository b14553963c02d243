use Rattle.std.proofs.Common.{◌≡◌, ℤ, take, drop}
use Rattle.std.specs.Ordering.{int_eq}
use Rattle.std.specs.HashMap.{get}
use Rattle.map_import.specs.Roads.{place_in}
use Rattle.map_import.specs.Refusals.{first_twice, twice_behind}
use Rattle.map_import.proofs.places.places_of.Given as goal

abbrev pub invariant-loop-node : goal.invariant-loop-node
invariant-loop-node l =
    ((id : ℤ) → get int_eq l.places id ≡ place_in (take l.node-index l.nodes) id)
    × (twice_behind (take l.node-index l.nodes) (drop l.node-index l.nodes) ≡ first_twice l.nodes)
