use Rattle.std.proofs.Common.{◌≡◌, [], length, None, refl, rules, arith}
use Rattle.std.proofs.lemmas.List.{get_or-replicate}
use Rattle.traffic_core.proofs.StandsAfter.{stands_before}
use Rattle.traffic_core.proofs.state.RoadState.with_room.Goals as goal

pub returns-clause-stands : goal.returns-clause-stands
returns-clause-stands c =
    let rows : c.in_ok-changed.changed.rows ≡ [] = search rules in
    let items = c.in_ok-slots.ensures.items_if_clones_equal (search rules) in
    let count : length c.in_ok-slots.slots.items ≡ length c.args.ground.now.profiles = search rules in
    stands_before c.args.ground.now _ refl (rw rows refl) count (λ profile below. rw items (get_or-replicate _ profile None None (search (arith, count, items)))) refl
