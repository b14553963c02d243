use Rattle.std.proofs.Common.{ℕ, List, subst}
use Rattle.std.specs.Io.KnownBytes.{Appends}
use Rattle.query_lines.proofs.Told.{written}
use Rattle.query_lines.proofs.answering.answer_lines.Goals as goal

pub returns-in-Ok-give_all-clause-done : goal.returns-in-Ok-give_all-clause-done
returns-in-Ok-give_all-clause-done g c = λ _.
    written (g.A.Answering.right c.args.answers.now) c.in-Ok.text _ _ _ c.in-Ok.ensures.text
    (subst (λ (t : List ℕ). Appends (g.K.Sink.held c.args.out.now) (g.K.Sink.held c.give_all.new.out) t) c.as_bytes.ensures c.in-Ok-give_all.ensures.ok)
