use Rattle.std.proofs.Common.{◌≡◌, take}
use Rattle.landmark_prep.proofs.labels.LabelTable.is_same.Given as goal

-- the rows so far are the same
abbrev pub invariant-loop-place : goal.invariant-loop-place
invariant-loop-place l = take l.place l.self ≡ take l.place l.other
