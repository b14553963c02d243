use Rattle.std.proofs.Common.{inl, inr}
use Rattle.prep_store.specs.FirstFaults.{FailsInPair}
use Rattle.prep_store.proofs.Telling.{taken_then, fails_as, fails_behind, handed_on}
use Rattle.prep_store.proofs.lists.read_pair.Goals as goal

pub returns-in_err-from-clause-fails : goal.returns-in_err-from-clause-fails
returns-in_err-from-clause-fails g c =
    handed_on (FailsInPair (g.V.RoadView.network c.args.out.now) (g.W.RoadView.network c.args.back.now) c.args.grain c.args.landmark.0 c.args.number) c.from_residual.result c.from_residual.ensures.1
    (fails_as c.in_err-from.ensures.fails (λ total rest f. inl f))

pub returns-in_err-to-clause-fails : goal.returns-in_err-to-clause-fails
returns-in_err-to-clause-fails g c =
    let first = c.in_ok-from.ensures in
    handed_on (FailsInPair (g.V.RoadView.network c.args.out.now) (g.W.RoadView.network c.args.back.now) c.args.grain c.args.landmark.0 c.args.number) c.from_residual-in_err-to.result c.from_residual-in_err-to.ensures.1
    (fails_behind first.text c.in_err-to.ensures.fails (λ total rest after e f. inr (c.in_ok-from.from.items, first.word, first.evidence, (after, e, f))))

pub returns-clause-text : goal.returns-clause-text
returns-clause-text g c = taken_then c.in_ok-from.ensures.text c.in_ok-to.ensures.text
