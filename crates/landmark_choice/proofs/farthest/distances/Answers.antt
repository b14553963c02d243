use Rattle.landmark_choice.proofs.farthest.distances.Goals as goal

pub returns-clause-near : goal.returns-clause-near
returns-clause-near g c =
    c.weights.ensures.near (g.V.RoadView.network c.args.view.now) c.args.node.0 (rw c.again-again.ensures.network at c.in_ok-explored.ensures.each)
