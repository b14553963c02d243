use Rattle.std.proofs.Common.{refl}
use Rattle.weighting.proofs.weighting.runs_of.Goals as goal
use Rattle.weighting.proofs.Plain.{unmoved}

pub returns-then-is_empty-2-clause-speed : goal.returns-then-is_empty-2-clause-speed
returns-then-is_empty-2-clause-speed c = unmoved _ _ _ _ _ (c.if-is_empty.ensures.0 refl)

pub returns-then-is_empty-2-clause-priority : goal.returns-then-is_empty-2-clause-priority
returns-then-is_empty-2-clause-priority c = unmoved _ _ _ _ _ (c.if-is_empty-2.ensures.0 refl)
