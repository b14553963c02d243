use Rattle.query_lines.proofs.Answers.{one_more_answer}
use Rattle.query_lines.proofs.answering.answers_to.Goals as goal

pub loop-query-preserved : goal.loop-query-preserved
loop-query-preserved g c =
    rw (c.in_ok-push.ensures.ok, c.as_str.ensures) (one_more_answer _ _ _ _ _ c.in_ok-line.line c.loop-query-test.true c.loop-query.invariant c.in_ok-line.ensures)
