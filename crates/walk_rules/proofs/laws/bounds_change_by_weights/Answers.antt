use Rattle.walk_rules.proofs.Walking.{falls_along_walk, rises_along_walk, walk_within, feasible_below}
use Rattle.walk_rules.proofs.laws.bounds_change_by_weights.Goals as goal

pub returns-clause-within : goal.returns-clause-within
returns-clause-within c = λ network r from to hops l w. walk_within network r hops from to l w

pub returns-clause-falls : goal.returns-clause-falls
returns-clause-falls c = λ network bound f from to hops w. falls_along_walk network bound f hops from to w

pub returns-clause-rises : goal.returns-clause-rises
returns-clause-rises c = λ network label r from to hops w. rises_along_walk network label r hops from to w

pub returns-clause-below : goal.returns-clause-below
returns-clause-below c = λ network bound target f from hops w. feasible_below f hops from w
