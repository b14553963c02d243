use Rattle.traffic_core.specs.Grounds.{AreUsableBelow}
use Rattle.traffic_core.proofs.usable.usable_under.Given as goal

abbrev pub invariant-loop-number : goal.invariant-loop-number
invariant-loop-number l = AreUsableBelow l.graph.lists l.profile l.number l.bits
