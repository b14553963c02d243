use Rattle.segment_graph.proofs.Holding.{road_pushed}
use Rattle.segment_graph.proofs.roads.ValueWords.push.Goals as goal

pub returns-clause-ok : goal.returns-clause-ok
returns-clause-ok c =
    road_pushed c.args.self.now.words _ c.append.new.self c.put_values.new.words.words c.args.self.now.count c.put_values.new.words.count c.args.values.now
    c.args.self.now.whole c.in_ok-append.ensures.ok c.put_values.ensures.edges c.put_values.ensures.elsewhere c.put_values.ensures.forward c.put_values.ensures.reverse
