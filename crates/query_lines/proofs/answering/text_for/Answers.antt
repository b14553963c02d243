use Rattle.std.proofs.Common.{List, subst}
use Rattle.query_lines.specs.declared.queries.TowerQuery.{TowerQuery}
use Rattle.query_lines.specs.Answering.{AreAnswers}
use Rattle.query_lines.proofs.Told.{answered}
use Rattle.query_lines.proofs.answering.text_for.Goals as goal

pub returns-clause-text : goal.returns-clause-text
returns-clause-text g c =
    let right = g.A.Answering.right c.args.answers.now in
    let text = c.in_ok-answers_to.field-0 in
    answered right text c.in_ok-queries.queries
    (subst (λ (queries : List TowerQuery). AreAnswers right queries text) c.as_slice.ensures c.in_ok-answers_to.ensures) _ c.in_ok-queries.ensures.queries
