use Rattle.std.proofs.Common.{take}
use Rattle.query_lines.specs.Answering.{AreAnswers}
use Rattle.query_lines.proofs.answering.answers_to.Given as goal

-- the text answers the queries up to here
abbrev pub invariant-loop-query : goal.invariant-loop-query
invariant-loop-query g l = AreAnswers (g.A.Answering.right l.answers) (take l.query-index l.queries) l.text
