use Rattle.landmark_prep.specs.Bounds.{labels_at}
use Rattle.landmark_prep.proofs.InGrains.{grains_of_one}
use Rattle.landmark_prep.proofs.preparation.Prep.grains_from_one.Goals as goal

pub returns : goal.returns
returns c =
    let grain = c.args.self.now.grain in
    grains_of_one grain (labels_at c.args.self.now.labels c.args.landmark) c.args.node.0 c.args.target.0
    c.grains_from-from_node.result c.grains_from-from_target.result c.grains_to-to_node.result c.grains_to-to_target.result
    c.grains_over-away.result c.grains_over-home.result c.greater_of.result
    c.grains_from-from_node.ensures c.grains_from-from_target.ensures c.grains_to-to_node.ensures c.grains_to-to_target.ensures
    (c.grains_over-away.ensures grain) (c.grains_over-home.ensures grain) c.greater_of.ensures
