use Rattle.two_way_search.proofs.Facing.{facing, reduced_falls}
use Rattle.two_way_search.proofs.Turn.{swap_met, first_turn, second_turn}
use Rattle.two_way_search.proofs.turns.Sides.take_turn.Goals as goal

pub settle_next-self-requires-clause-falls : goal.settle_next-self-requires-clause-falls
settle_next-self-requires-clause-falls g c = reduced_falls c.requires.opposed

pub settle_next-self-requires-else-self-clause-falls :
    goal.settle_next-self-requires-else-self-clause-falls
settle_next-self-requires-else-self-clause-falls g c = reduced_falls (facing c.requires.opposed)

pub settle_next-self-requires-else-self-clause-met :
    goal.settle_next-self-requires-else-self-clause-met
settle_next-self-requires-else-self-clause-met g c = swap_met c.args.self.now.forward.reached c.args.self.now.backward.reached c.args.self.now.met c.requires.sides.meets

pub returns-then-self-clause-sides : goal.returns-then-self-clause-sides
returns-then-self-clause-sides g c =
    let s = c.settle_next-self.ensures in
    first_turn c.requires.opposed c.requires.sides c.requires.on c.settle_next-self.new.self c.settle_next-self.result c.if-self.true s.settled s.side s.met

pub returns-else-self-clause-sides : goal.returns-else-self-clause-sides
returns-else-self-clause-sides g c =
    let s = c.settle_next-self-else-self.ensures in
    second_turn c.requires.opposed c.requires.sides c.requires.on c.settle_next-self-else-self.new.self c.settle_next-self-else-self.result c.if-self.false s.settled s.side s.met
