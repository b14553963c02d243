use Rattle.std.proofs.Common.{refl, sym, ◌∙◌, arith}
use Rattle.two_way_search.specs.Meetings.{AreUnderway}
use Rattle.two_way_search.proofs.Going.{few_settled}
use Rattle.two_way_search.proofs.Turn.{next_light, met_light, begin_side, begin_both}
use Rattle.two_way_search.proofs.turns.expand_both.Goals as goal

pub turns-init : goal.turns-init
turns-init g c =
    let out = g.V.RoadView.network c.args.out.now in
    let back = g.W.RoadView.network c.args.back.now in
    let ahead = g.P.Potential.bound c.args.ahead.now in
    let behind = g.Q.Potential.bound c.args.behind.now in
    let o = c.requires.opposed in
    let n = c.node_count-nodes.result in
    let first = c.in_ok-begin.ensures in
    let second = c.in_ok-begin-2.ensures in
    let one = begin_side out ahead behind c.args.start.0 n c.args.first c.in_ok-begin.field-0 c.node_count-nodes.ensures c.requires.start c.requires.first c.requires.asked first.reached first.next first.settled in
    let other = begin_side back behind ahead c.args.target.0 n c.args.second c.in_ok-begin-2.field-0 (c.node_count-nodes.ensures ∙ sym o.turned.nodes) (omega (arith, o.turned.nodes, c.requires.target)) c.requires.second c.requires.asked_back second.reached second.next second.settled in
    record {
      same = refl;
      same_back = refl;
      starts = omega (arith, first.settled);
      starts_back = omega (arith, second.settled);
      few = omega (arith, c.node_count-nodes.ensures, c.node_count-nodes.type_inv);
      sides = begin_both out back ahead behind c.args.start.0 c.args.target.0 n c.in_ok-begin.field-0 c.in_ok-begin-2.field-0 c.requires.apart one other first.reached second.reached first.settled second.settled;
    }

pub may_go_on-requires-clause-first : goal.may_go_on-requires-clause-first
may_go_on-requires-clause-first g c = next_light c.turns.invariant.sides.first c.turns.invariant.few

pub may_go_on-requires-clause-second : goal.may_go_on-requires-clause-second
may_go_on-requires-clause-second g c = next_light c.turns.invariant.sides.second (omega (arith, c.requires.opposed.turned.nodes, c.turns.invariant.few))

pub may_go_on-requires-clause-met : goal.may_go_on-requires-clause-met
may_go_on-requires-clause-met g c = met_light c.turns.invariant.sides c.turns.invariant.few c.requires.opposed.turned.nodes

pub take_turn-requires-clause-count : goal.take_turn-requires-clause-count
take_turn-requires-clause-count g c =
    let i = c.turns.invariant in
    omega (arith, i.starts, i.few, few_settled i.sides.first.underway, c.requires.count)

pub take_turn-requires-clause-count_back : goal.take_turn-requires-clause-count_back
take_turn-requires-clause-count_back g c =
    let i = c.turns.invariant in
    omega (arith, i.starts_back, i.few, few_settled i.sides.second.underway, c.requires.opposed.turned.nodes, c.requires.count_back)

pub turns-smaller : goal.turns-smaller
turns-smaller g c =
    let i = c.turns.invariant in
    let s = c.take_turn.ensures in
    let u : AreUnderway (g.V.RoadView.network c.args.out.now) (g.W.RoadView.network c.args.back.now) (g.P.Potential.bound c.args.ahead.now) (g.Q.Potential.bound c.args.behind.now) c.args.start.0 c.args.target.0 c.take_turn.new.self.forward c.take_turn.new.self.backward c.take_turn.new.self.met = rw (i.same, i.same_back) at s.sides in
    omega (arith, s.one, few_settled u.first.underway, few_settled u.second.underway, c.requires.opposed.turned.nodes)

pub returns-clause-rise : goal.returns-clause-rise
returns-clause-rise g c =
    let i = c.turns.invariant in
    omega (arith, i.starts, few_settled i.sides.first.underway)

pub returns-clause-rise_back : goal.returns-clause-rise_back
returns-clause-rise_back g c =
    let i = c.turns.invariant in
    omega (arith, i.starts_back, few_settled i.sides.second.underway, c.requires.opposed.turned.nodes)
