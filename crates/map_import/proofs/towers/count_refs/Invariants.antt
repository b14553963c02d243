use Rattle.std.proofs.Common.{◌≡◌, ℕ, ℤ, ◌+◌, take, count_by}
use Rattle.std.specs.Ordering.{int_eq}
use Rattle.std.specs.HashMap.{get}
use Rattle.map_import.specs.Building.{mark}
use Rattle.map_import.proofs.towers.count_refs.Given as goal

abbrev pub invariant-loop-id : goal.invariant-loop-id
invariant-loop-id l =
    (n : ℤ → ℕ) → ((id : ℤ) → get int_eq l.initial.marks id ≡ mark (n id))
    → (id : ℤ) → get int_eq l.marks id ≡ mark (n id + count_by (int_eq id) (take l.id-index l.refs))
