use Rattle.walk_rules.proofs.Showing.{evidence_least, closed_none}
use Rattle.walk_rules.proofs.laws.evidence_shows.Goals as goal

pub returns-clause-least : goal.returns-clause-least
returns-clause-least c = evidence_least

pub returns-clause-none : goal.returns-clause-none
returns-clause-none c = closed_none

pub returns-clause-shown_least : goal.returns-clause-shown_least
returns-clause-shown_least c = λ network bound start target weight s. evidence_least network s.label start target weight s.evidence

pub returns-clause-shown_none : goal.returns-clause-shown_none
returns-clause-shown_none c = λ network bound start target s. closed_none network s.has start target s.closed
