use Rattle.std.specs.List.{AllZip}
use Rattle.std.proofs.Common.{take}
use Rattle.traffic_core.specs.Grounds.{AreUsable}
use Rattle.traffic_core.proofs.usable.usable_edges.Given as goal

abbrev pub invariant-loop-profile : goal.invariant-loop-profile
invariant-loop-profile l = AllZip (AreUsable l.graph.lists) (take l.profile-index l.profiles) l.sets.items
