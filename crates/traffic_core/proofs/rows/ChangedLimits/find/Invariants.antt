use Rattle.std.proofs.Common.{ℕ, length, Option, Some, None, suc}
use Rattle.traffic_core.proofs.LinkedRows.{IsSought}
use Rattle.traffic_core.proofs.rows.ChangedLimits.find.Given as goal

-- one more than the number, and 0 where there is none
abbrev pub above : Option ℕ → ℕ
above None = 0
above (Some number) = suc number

abbrev pub invariant-loop-next : goal.invariant-loop-next
invariant-loop-next l = IsSought (length l.self-inside.heads.items) l.self-inside.rows.items l.place l.next

abbrev pub decreases-loop-next : goal.decreases-loop-next
decreases-loop-next l = above l.next
