use Rattle.label_spread.proofs.labels.labels_from.Goals as goal

pub returns-clause-each : goal.returns-clause-each
returns-clause-each g c =
    c.cut_weights.ensures.each (g.V.RoadView.network c.args.view.now) c.args.node.0 (rw c.again-again.ensures.network at c.in_ok-explored.ensures.each)
