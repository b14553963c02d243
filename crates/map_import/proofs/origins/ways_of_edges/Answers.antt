use Rattle.std.specs.Ordering.{int_eq}
use Rattle.std.specs.HashMap.{get}
use Rattle.std.proofs.Common.{◌≡◌, ℤ, List, ◌++◌, length, drop, sym, ap, ◌∙◌}
use Rattle.map_import.specs.Roads.{UsedWay, used_ways, is_tower}
use Rattle.map_import.specs.Building.{tower_by}
use Rattle.map_import.proofs.WaysOfPieces.{way_here, ways_done, origins, one_each}
use Rattle.map_import.proofs.origins.ways_of_edges.Goals as goal

pub loop-way-preserved : goal.loop-way-preserved
loop-way-preserved c =
    way_here (tower_by (get int_eq c.in_ok-towers.towers)) c.deref-way-items.result.now c.loop-way.way-index c.way-item.result c.loop-way.ids c.push_way.new.ids _
    c.loop-way-test.true c.way-item.is c.in_ok-push_way.ensures c.loop-way.invariant

pub returns-clause-each : goal.returns-clause-each
returns-clause-each c =
    let ways : List UsedWay = c.deref-way-items.result.now in
    let tower = tower_by (get int_eq c.in_ok-towers.towers) in
    let towers : (id : ℤ) → tower id ≡ is_tower ways id =
    λ id. c.in_ok-towers.ensures id ∙ ap (λ (l : List UsedWay). is_tower l id) (c.deref.ensures.value ∙ sym c.deref-way-items.ensures.value) in
    let used : ways ≡ used_ways c.args.map.now.ways = c.deref-way-items.ensures.value ∙ c.in_ok-ways.ensures ∙ ap used_ways c.as_slice.ensures in
    origins c.args.map.now tower ways c.loop-way.ids towers used (ways_done tower ways c.loop-way.way-index c.loop-way.ids _ c.loop-way-test.false c.loop-way.invariant)

pub returns-clause-many : goal.returns-clause-many
returns-clause-many c = λ laid h. ap length (returns-clause-each c) ∙ one_each c.args.map.now laid h
