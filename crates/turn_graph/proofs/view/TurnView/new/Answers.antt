use Rattle.turn_graph.proofs.Passing.{walks_are}
use Rattle.turn_graph.proofs.view.TurnView.new.Goals as goal

pub returns-clause-walks : goal.returns-clause-walks
returns-clause-walks g c = λ ids all hops differ is.
    walks_are (g.V.RoadView.network c.args.base) c.args.graph.now.lists c.args.turns.now c.args.from.0 c.args.to.0 ids all c.args.graph.now.facts c.requires.over differ is hops
