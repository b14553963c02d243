use Rattle.std.proofs.Common.{◌≤◌, length, arith}
use Rattle.std.proofs.lemmas.List.{take_all}
use Rattle.gh_base.proofs.Given.{given_more}
use Rattle.gh_base.proofs.giving.give_all.Goals as goal

pub pieces-preserved : goal.pieces-preserved
pieces-preserved g c = record {
  given = given_more (g.K.Sink.held c.args.out.now) (g.K.Sink.held c.pieces.out) (g.K.Sink.held c.give.new.self) c.args.text.now c.pieces.done c.in_ok-done.field-0 c.pieces.invariant.given (rw c.split_at.ensures.back at c.in_ok-done.ensures.bytes);
  place = omega (arith, c.in_ok-done.ensures.bound);
  later = omega (arith, c.give.ensures.cause.later);
}

pub returns-clause-ok : goal.returns-clause-ok
returns-clause-ok g c =
    let end : length c.args.text.now ≤ c.pieces.done = omega arith in
    rw (take_all c.pieces.done c.args.text.now end) at c.pieces.invariant.given
