use Rattle.script_text.proofs.Growing.{ended_keeps_tally}
use Rattle.script_text.proofs.putting.put.Goals as goal

pub returns-in-Sync-clause-counted : goal.returns-in-Sync-clause-counted
returns-in-Sync-clause-counted c = ended_keeps_tally c.end_phase.result c.args.so_far.now c.end_phase.new.so_far c.args.tally.now c.end_phase.ensures.said c.requires.counted
