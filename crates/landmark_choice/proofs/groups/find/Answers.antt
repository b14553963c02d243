use Rattle.std.proofs.Common.{◌<◌, length, slice_index, ◌∙◌, arith}
use Rattle.landmark_choice.proofs.Halving.{halved_forest, halved}
use Rattle.landmark_choice.proofs.groups.find.Goals as goal

pub up-preserved : goal.up-preserved
up-preserved c =
    let l : c.up.at < length c.up.above = omega arith in
    let first = c.up.invariant.forest c.up.at l in
    let second = c.up.invariant.forest (slice_index c.up.above c.up.at) (omega arith) in
    record {
      within = omega arith;
      forest = halved_forest c.up.above c.up.at l c.up.invariant.forest;
      leader = λ leader h.
          let now = c.up.invariant.same leader h in
          now.same (slice_index c.up.above c.up.at) (omega arith) ∙ now.same c.up.at l ∙ c.up.invariant.leader leader h;
      same = λ leader h. halved c.up.above c.up.at leader l c.up-test.true (c.up.invariant.same leader h);
    }
