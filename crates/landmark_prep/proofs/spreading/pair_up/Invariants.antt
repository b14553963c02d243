use Rattle.std.proofs.Common.{◌≡◌, ◌++◌, length}
use Rattle.landmark_prep.specs.Jobs.{rows_of}
use Rattle.landmark_prep.proofs.spreading.pair_up.Given as goal

-- the rows of the table so far, and those that are left
abbrev pub invariant-loop-from : goal.invariant-loop-from
invariant-loop-from l = rows_of l.table ++ l.left.rest.items ≡ l.fn.rows.items

abbrev pub decreases-loop-from : goal.decreases-loop-from
decreases-loop-from l = length l.left.rest.items
