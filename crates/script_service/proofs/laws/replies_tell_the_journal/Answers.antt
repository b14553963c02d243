use Rattle.script_service.proofs.OneJournal.{one_journal, one_text}
use Rattle.script_service.proofs.laws.replies_tell_the_journal.Goals as goal

pub returns-clause-journal : goal.returns-clause-journal
returns-clause-journal c = one_journal c.preparations_are_one.ensures.one

pub returns-clause-text : goal.returns-clause-text
returns-clause-text c = one_text c.preparations_are_one.ensures.one
