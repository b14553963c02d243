use Rattle.std.proofs.Common.{◌≡◌, ◌+◌, ◌-◌, arith}
use Rattle.script_service.proofs.JournalLines.{journal_more}
use Rattle.script_service.proofs.journal.journal_text.Goals as goal

pub loop-before-preserved : goal.loop-before-preserved
loop-before-preserved g c =
    let place : c.loop-before.before + 1 - 1 ≡ c.loop-before.before = omega arith in
    journal_more c.args.names.now c.args.profiles.now c.args.service.now.entries c.loop-before.before c.entry-entry.result.now _ _ _
    (rw place at c.entry-entry.ensures.is) c.loop-before.invariant c.in_ok-put_line.ensures
