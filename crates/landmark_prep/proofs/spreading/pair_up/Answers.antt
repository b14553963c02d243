use Rattle.std.proofs.Common.{length, length-append, ap, arith}
use Rattle.landmark_prep.proofs.Jobbing.{rows_of-push, rows_of-even}
use Rattle.landmark_prep.proofs.spreading.pair_up.Goals as goal

pub loop-from-preserved : goal.loop-from-preserved
loop-from-preserved c =
    let a = c.in-Some.ensures.items in
    let b = c.in-Some-next.ensures.items in
    let p = c.in_ok-push_labels.ensures.ok in
    let x = c.in_ok-from.was in
    let y = c.in_ok-to.was in
    let q = rows_of-push c.loop-from.table (record { from = c.in_ok-from.field-0; to = c.in_ok-to.field-0 }) c.next-in-Some.new.self.rest.items in
    let i = c.loop-from.invariant in
    cc

-- there are two for each
pub returns-in_default-next : goal.returns-in_default-next
returns-in_default-next c = absurd (
    let i = simp length-append at (ap length c.loop-from.invariant) in
    let a = ap length c.in-Some.ensures.items in
    let n = c.in_default-next.ensures.cases in
    omega (arith, c.requires, rows_of-even c.loop-from.table, c.next.new.self.rest.ok))
