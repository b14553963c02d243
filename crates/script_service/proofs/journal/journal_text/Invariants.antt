use Rattle.std.proofs.Common.{◌≡◌, length, take}
use Rattle.script_service.specs.Writing.{entries_text}
use Rattle.script_service.proofs.JournalLines.{headed}
use Rattle.script_service.proofs.journal.journal_text.Given as goal

abbrev pub invariant-loop-before : goal.invariant-loop-before
invariant-loop-before g l = l.text ≡ headed (length l.service.entries) (entries_text l.names l.profiles 0 (take l.before l.service.entries))
