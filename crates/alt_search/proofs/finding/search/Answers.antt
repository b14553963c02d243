use Rattle.std.proofs.Common.{◌<◌, ◌≤◌, [], is_some, sym, ap, ◌∙◌, arith}
use Rattle.std.specs.Prelude.{⊤}
use Rattle.alt_search.proofs.Finish.{least_at_target, none_left}
use Rattle.alt_search.proofs.Showing.{shown_at_once, shown_least, shown_none}
use Rattle.alt_search.proofs.Starts.{starts_at_target, starts_at_end, starts_once, starts_nowhere, none_from_target}
use Rattle.alt_search.proofs.Trees.{chain_of}
use Rattle.alt_search.proofs.finding.search.Goals as goal

pub returns-then-start-target-clause-none : goal.returns-then-start-target-clause-none
returns-then-start-target-clause-none g c = λ f. (λ no. absurd no, λ no. no [] c.if-start-target.true)

pub returns-then-start-target-clause-once : goal.returns-then-start-target-clause-once
returns-then-start-target-clause-once g c =
    starts_nowhere (g.V.RoadView.network c.args.view.now) (g.P.Potential.bound c.args.potential.now) c.args.start.0 c.args.target.0 (λ _. ⊤) (λ _. ⊥) (λ _ no. no)

pub returns-then-start-target-clause-within : goal.returns-then-start-target-clause-within
returns-then-start-target-clause-within g c = λ f.
    starts_nowhere (g.V.RoadView.network c.args.view.now) (g.P.Potential.bound c.args.potential.now) c.args.start.0 c.args.target.0 (λ sum. sum ≤ 0) (λ sum. sum < 0) (λ _ less. omega arith)

pub returns-then-start-target-clause-shown : goal.returns-then-start-target-clause-shown
returns-then-start-target-clause-shown g c = λ f.
    shown_at_once (g.V.RoadView.network c.args.view.now) (g.P.Potential.bound c.args.potential.now) c.args.start.0 c.args.target.0

pub returns-then-not-end-clause-none : goal.returns-then-not-end-clause-none
returns-then-not-end-clause-none g c = λ f.
    let d = c.in_ok-end.ensures.done in
    (λ _. none_left d.underway (d.in_order f.along).ordered f.along (ap is_some f.at_target) (rw c.if-not-end.true at d.stops).0, λ _. tt)

pub returns-then-not-end-clause-all : goal.returns-then-not-end-clause-all
returns-then-not-end-clause-all g c = λ f.
    let d = c.in_ok-end.ensures.done in
    starts_at_end d.underway (d.in_order f.along).ordered f.along (rw c.if-not-end.true at d.stops).0

pub returns-then-not-end-clause-once : goal.returns-then-not-end-clause-once
returns-then-not-end-clause-once g c = starts_once c.in_ok-end.ensures.done.underway

pub returns-then-not-end-clause-here : goal.returns-then-not-end-clause-here
returns-then-not-end-clause-here g c = λ same. none_from_target c.in_ok-end.ensures.done.underway same

pub returns-then-not-end-clause-closed : goal.returns-then-not-end-clause-closed
returns-then-not-end-clause-closed g c = λ f. shown_none c.in_ok-end.ensures.done (g.met.V.RoadView.leads c.args.view.now) c.requires.start c.requires.target f c.if-not-end.true

pub weight_at-weight-requires : goal.weight_at-weight-requires
weight_at-weight-requires g c =
    let d = c.in_ok-end.ensures.done in
    let stops = (rw c.if-not-end.false at d.stops).0 in
    ap is_some (d.underway.tree.queued c.args.target.0 stops.key stops.key_is).2

pub walk_to-requires-clause-target : goal.walk_to-requires-clause-target
walk_to-requires-clause-target g c =
    let d = c.in_ok-end.ensures.done in
    let stops = (rw c.if-not-end.false at d.stops).0 in
    ap is_some (d.underway.tree.queued c.args.target.0 stops.key stops.key_is).2

pub walk_to-requires-clause-chain : goal.walk_to-requires-clause-chain
walk_to-requires-clause-chain g c = chain_of c.in_ok-end.ensures.done.underway.tree

pub returns-clause-walk : goal.returns-clause-walk
returns-clause-walk g c =
    let network = g.V.RoadView.network c.args.view.now in
    let bound = g.P.Potential.bound c.args.potential.now in
    let d = c.in_ok-end.ensures.done in
    let stops = (rw c.if-not-end.false at d.stops).0 in
    let q = d.underway.tree.queued c.args.target.0 stops.key stops.key_is in
    let walk = c.in_ok-hops.ensures network bound c.args.start.0 c.in_ok-end.end.settled d.open_keys q.0 d.underway.tree q.2 in
    (walk.0, walk.1 ∙ sym (c.weight_at-weight.ensures q.0 q.2))

pub returns-clause-least : goal.returns-clause-least
returns-clause-least g c = λ f others walk.
    let d = c.in_ok-end.ensures.done in
    let stops = (rw c.if-not-end.false at d.stops).0 in
    let q = d.underway.tree.queued c.args.target.0 stops.key stops.key_is in
    let weighs = c.weight_at-weight.ensures q.0 q.2 in
    omega (arith, least_at_target d.underway (d.in_order f.along).ordered f.along stops q.0 q.2 others walk)

pub returns-clause-none : goal.returns-clause-none
returns-clause-none g c = λ f.
    let network = g.V.RoadView.network c.args.view.now in
    let bound = g.P.Potential.bound c.args.potential.now in
    let d = c.in_ok-end.ensures.done in
    let stops = (rw c.if-not-end.false at d.stops).0 in
    let q = d.underway.tree.queued c.args.target.0 stops.key stops.key_is in
    let walk = c.in_ok-hops.ensures network bound c.args.start.0 c.in_ok-end.end.settled d.open_keys q.0 d.underway.tree q.2 in
    (λ no. absurd no, λ no. no c.in_ok-hops.hops walk.0)

pub returns-clause-within : goal.returns-clause-within
returns-clause-within g c = λ f.
    let d = c.in_ok-end.ensures.done in
    let stops = (rw c.if-not-end.false at d.stops).0 in
    let q = d.underway.tree.queued c.args.target.0 stops.key stops.key_is in
    let weighs = c.weight_at-weight.ensures q.0 q.2 in
    rw weighs (starts_at_target d.underway (d.in_order f.along).ordered f.along f.at_target stops q.0 q.2)

pub returns-clause-shown : goal.returns-clause-shown
returns-clause-shown g c = λ f.
    let d = c.in_ok-end.ensures.done in
    let stops = (rw c.if-not-end.false at d.stops).0 in
    let q = d.underway.tree.queued c.args.target.0 stops.key stops.key_is in
    let weighs = c.weight_at-weight.ensures q.0 q.2 in
    rw weighs (shown_least d (g.met.V.RoadView.leads c.args.view.now) c.requires.start c.requires.target f c.if-not-end.false q.0 q.2)

pub returns-clause-once : goal.returns-clause-once
returns-clause-once g c = starts_once c.in_ok-end.ensures.done.underway

pub returns-clause-long : goal.returns-clause-long
returns-clause-long g c =
    let network = g.V.RoadView.network c.args.view.now in
    let bound = g.P.Potential.bound c.args.potential.now in
    let d = c.in_ok-end.ensures.done in
    let stops = (rw c.if-not-end.false at d.stops).0 in
    let q = d.underway.tree.queued c.args.target.0 stops.key stops.key_is in
    let walk = c.in_ok-hops.ensures network bound c.args.start.0 c.in_ok-end.end.settled d.open_keys q.0 d.underway.tree q.2 in
    omega (arith, walk.2, (d.underway.tree.small c.args.target.0 q.0 q.2).0)

pub returns-clause-here : goal.returns-clause-here
returns-clause-here g c = λ same. none_from_target c.in_ok-end.ensures.done.underway same
