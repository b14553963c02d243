use Rattle.std.proofs.Common.{List, subst}
use Rattle.std.specs.Prelude.{AllPairs}
use Rattle.value_plan.specs.Slots.{Place, AreApart}
use Rattle.value_plan.proofs.plan.Plan.slots.Goals as goal

pub returns-clause-apart : goal.returns-clause-apart
returns-clause-apart c = subst (λ (slots : List Place). AllPairs AreApart slots) c.self.view_is c.self.invariant.apart
