use Rattle.traffic_core.specs.History.{limit_in}
use Rattle.prep_store.proofs.Wholes.{turned_as}
use Rattle.prep_store.proofs.reading.read_parts.Goals as goal

pub read_over-requires-clause-turned : goal.read_over-requires-clause-turned
read_over-requires-clause-turned g c =
    turned_as _ _ _ _ c.new-out.ensures.network c.new-back.ensures.network
    (c.sides_are_turned.ensures c.new-weighting.result (limit_in c.new-listed.result.list.now) c.graph-graph.result.now.lists c.graph-graph.result.now.facts)
