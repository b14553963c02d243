use Rattle.landmark_prep.specs.Preparations.{nodes_of}
use Rattle.landmark_prep.proofs.Feasible.{potential_feasible}
use Rattle.landmark_prep.proofs.preparation.Prep.potential.Goals as goal

pub returns-clause-feasible : goal.returns-clause-feasible
returns-clause-feasible c = λ base network from direct fit no_faster leads nodes.
    potential_feasible base network c.args.self.now.labels c.args.active (nodes_of c.args.self.now.labels) from c.args.goal direct fit no_faster leads nodes c.requires.goal
