use Rattle.landmark_prep.proofs.Feasible.{some_below, none_no_walk}
use Rattle.landmark_prep.proofs.preparation.Prep.bound.Goals as goal

pub returns-clause-below : goal.returns-clause-below
returns-clause-below c = λ network fit. some_below network c.args.self.now.labels c.args.active.now c.args.v.0 c.args.t.0 c.greatest_bound.result c.greatest_bound.ensures fit

pub returns-clause-none : goal.returns-clause-none
returns-clause-none c = λ network fit. none_no_walk network c.args.self.now.labels c.args.active.now c.args.v.0 c.args.t.0 c.greatest_bound.result c.greatest_bound.ensures fit
