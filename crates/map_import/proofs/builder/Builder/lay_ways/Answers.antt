use Rattle.std.specs.Ordering.{int_eq}
use Rattle.std.specs.HashMap.{get}
use Rattle.map_import.specs.Building.{laid_as, tower_by}
use Rattle.map_import.proofs.Cuts.{ways_step, ways_refuse}
use Rattle.map_import.proofs.Ends.{refuse_exit}
use Rattle.map_import.proofs.builder.Builder.lay_ways.Goals as goal

pub returns-in_err-lay_way-clause-refused : goal.returns-in_err-lay_way-clause-refused
returns-in_err-lay_way-clause-refused c =
    refuse_exit _ c.in_err-lay_way.field-0.0 _ c.from_residual.ensures.1 (λ n.
    ways_refuse (get int_eq c.args.places.now) (tower_by (get int_eq c.args.towers.now)) c.args.ways.now c.loop-way.way-index c.way-item.result
    (laid_as c.loop-way.self.ids c.loop-way.self.graph.lists) c.in_err-lay_way.field-0.0 _
    c.loop-way-test.true c.way-item.is (c.in_err-lay_way.ensures.refused n) c.loop-way.invariant.1)

pub loop-way-preserved : goal.loop-way-preserved
loop-way-preserved c = (
  c.in_ok-lay_way.ensures.built,
  ways_step (get int_eq c.args.places.now) (tower_by (get int_eq c.args.towers.now)) c.args.ways.now c.loop-way.way-index c.way-item.result
      (laid_as c.loop-way.self.ids c.loop-way.self.graph.lists) (laid_as c.lay_way.new.self.ids c.lay_way.new.self.graph.lists) _
      c.loop-way-test.true c.way-item.is c.in_ok-lay_way.ensures.laid c.loop-way.invariant.1,
)
