use Rattle.landmark_prep.specs.Preparations.{nodes_of}
use Rattle.two_way_search.proofs.Rising.{behind_feasible}
use Rattle.two_way_search.proofs.behind.Behind.new.Goals as goal

pub returns-clause-feasible : goal.returns-clause-feasible
returns-clause-feasible c = λ base network back fit slower turned leads nodes.
    behind_feasible c.args.prep.now.labels fit slower turned c.args.start.0 c.args.active (nodes_of c.args.prep.now.labels) leads nodes c.requires.start
