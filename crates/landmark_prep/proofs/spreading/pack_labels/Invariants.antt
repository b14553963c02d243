use Rattle.std.proofs.Common.{◌≡◌, map, take}
use Rattle.landmark_prep.specs.Packing.{packed}
use Rattle.landmark_prep.proofs.spreading.pack_labels.Given as goal

-- the labels so far
abbrev pub invariant-loop-node : goal.invariant-loop-node
invariant-loop-node l = l.row ≡ map (packed l.grain) (take l.node l.labels)
