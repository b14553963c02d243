use Rattle.std.proofs.Common.{[], sym, ◌∙◌, arith}
use Rattle.two_way_search.proofs.Facing.{opposed, left_there}
use Rattle.two_way_search.proofs.Trees.{chain_of}
use Rattle.two_way_search.proofs.Ends.{walk_through, none_met, met_least, met_at, starts_on_both, left_missing, none_ahead, none_behind}
use Rattle.two_way_search.proofs.searching.search_both.Goals as goal

pub returns-then-start-target-clause-none : goal.returns-then-start-target-clause-none
returns-then-start-target-clause-none g c = (λ no. absurd no, λ no. no [] c.if-start-target.true)

pub returns-in_default-clause-none : goal.returns-in_default-clause-none
returns-in_default-clause-none g c =
    let o = opposed c.requires.turned c.requires.ahead c.requires.behind in
    (λ _. none_ahead o (left_missing (g.P.Potential.bound c.args.ahead.now) (g.Q.Potential.bound c.args.behind.now) c.args.start.0 (sym c.reduced_at.ensures.is ∙ c.in_default.is)), λ _. tt)

pub returns-in_default-reduced_at-clause-none : goal.returns-in_default-reduced_at-clause-none
returns-in_default-reduced_at-clause-none g c =
    let o = opposed c.requires.turned c.requires.ahead c.requires.behind in
    (λ _. none_behind o (left_missing (g.Q.Potential.bound c.args.behind.now) (g.P.Potential.bound c.args.ahead.now) c.args.target.0 (sym c.reduced_at-2.ensures.is ∙ c.in_default-reduced_at.is)), λ _. tt)

pub returns-in_default-met-clause-none : goal.returns-in_default-met-clause-none
returns-in_default-met-clause-none g c =
    let o = opposed c.requires.turned c.requires.ahead c.requires.behind in
    let end = c.in_ok-sides.ensures in
    (λ _. none_met o end.sides end.ended c.in_default-met.is, λ _. tt)

pub returns-in_default-met-clause-started : goal.returns-in_default-met-clause-started
returns-in_default-met-clause-started g c = λ _.
    let ahead = g.P.Potential.bound c.args.ahead.now in
    let behind = g.Q.Potential.bound c.args.behind.now in
    let o = opposed c.requires.turned c.requires.ahead c.requires.behind in
    let end = c.in_ok-sides.ensures in
    let first = left_there ahead behind c.args.start.0 c.in-Some.first (sym c.in-Some.ensures.is) in
    let second = left_there behind ahead c.args.target.0 c.in-Some-reduced_at.second (sym c.in-Some-reduced_at.ensures.is) in
    starts_on_both o end.sides end.ended first.0 second.0 first.1 second.1

pub walk_over-requires-clause-chain : goal.walk_over-requires-clause-chain
walk_over-requires-clause-chain g c = chain_of c.in_ok-sides.ensures.sides.first.underway.tree

pub walk_over-requires-clause-chain_back : goal.walk_over-requires-clause-chain_back
walk_over-requires-clause-chain_back g c = chain_of c.in_ok-sides.ensures.sides.second.underway.tree

pub returns-clause-walk : goal.returns-clause-walk
returns-clause-walk g c =
    let o = opposed c.requires.turned c.requires.ahead c.requires.behind in
    let end = c.in_ok-sides.ensures in
    let sides = end.sides in
    let m = met_at o sides end.ended c.in-Some-met.best c.in-Some-met.is in
    let walk = c.in_ok-hops.ensures _ _ _ _ c.args.start.0 c.args.target.0 _ _ sides.first.open_keys sides.second.open_keys m.0 m.1 c.requires.turned sides.first.underway.tree sides.second.underway.tree m.2 m.3 in
    (walk.0, walk.1 ∙ sym m.4)

pub returns-clause-long : goal.returns-clause-long
returns-clause-long g c =
    let o = opposed c.requires.turned c.requires.ahead c.requires.behind in
    let end = c.in_ok-sides.ensures in
    let sides = end.sides in
    let m = met_at o sides end.ended c.in-Some-met.best c.in-Some-met.is in
    let walk = c.in_ok-hops.ensures _ _ _ _ c.args.start.0 c.args.target.0 _ _ sides.first.open_keys sides.second.open_keys m.0 m.1 c.requires.turned sides.first.underway.tree sides.second.underway.tree m.2 m.3 in
    let near = sides.first.underway.tree.small _ m.0 m.2 in
    let far = sides.second.underway.tree.small _ m.1 m.3 in
    omega (arith, walk.2, near.0, far.0)

pub returns-clause-least : goal.returns-clause-least
returns-clause-least g c =
    let o = opposed c.requires.turned c.requires.ahead c.requires.behind in
    let end = c.in_ok-sides.ensures in
    met_least o end.sides end.ended c.in-Some-met.best c.in-Some-met.is

pub returns-clause-none : goal.returns-clause-none
returns-clause-none g c =
    let o = opposed c.requires.turned c.requires.ahead c.requires.behind in
    let walk = walk_through o c.in_ok-sides.ensures.sides c.in-Some-met.best c.in-Some-met.is in
    (λ no. absurd no, λ no. no walk.0 walk.1)

pub returns-clause-started : goal.returns-clause-started
returns-clause-started g c = λ _.
    let ahead = g.P.Potential.bound c.args.ahead.now in
    let behind = g.Q.Potential.bound c.args.behind.now in
    let o = opposed c.requires.turned c.requires.ahead c.requires.behind in
    let end = c.in_ok-sides.ensures in
    let first = left_there ahead behind c.args.start.0 c.in-Some.first (sym c.in-Some.ensures.is) in
    let second = left_there behind ahead c.args.target.0 c.in-Some-reduced_at.second (sym c.in-Some-reduced_at.ensures.is) in
    starts_on_both o end.sides end.ended first.0 second.0 first.1 second.1
