use Rattle.std.proofs.Common.{◌≡◌, ℕ, ◌+◌, ◌<◌, ◌≤◌, length, length-set, slice_index, sym, subst, ◌∙◌, arith}
use Rattle.std.specs.Prelude.{slice_set}
use Rattle.std.proofs.lemmas.Grind.{get_or_default_zero}
use Rattle.landmark_choice.specs.Grouping.{AreSizes}
use Rattle.landmark_choice.proofs.Counting.{counted, no_more_than}
use Rattle.landmark_choice.proofs.groups.sizes.Goals as goal

pub loop-number-preserved : goal.loop-number-preserved
loop-number-preserved c =
    let sizes = c.loop-number.sizes.items in
    let at = c.find-leader.result in
    let within : at < length sizes = let x = c.find-leader.ensures.within in let y = c.loop-number.invariant.long in omega arith in
    let read : slice_index sizes at ≡ c.index_mut.result.now = sym (c.index_mut.ensures.value ∙ get_or_default_zero sizes at c.index_mut.result.now within) in
    record {
      forest = c.find-leader.ensures.forest;
      long = omega (arith, length-set sizes at (c.index_mut.result.now + 1), c.loop-number.invariant.long);
      small = λ one. subst (λ (x : ℕ). slice_index (slice_set sizes at (x + 1)) one ≤ c.loop-number.number + 1) read (no_more_than sizes at c.loop-number.number within c.loop-number.invariant.small one);
      same = λ leader h. c.find-leader.ensures.same leader (c.loop-number.invariant.same leader h);
      each = λ leader h. subst (λ (x : ℕ). AreSizes leader (c.loop-number.number + 1) (slice_set sizes at (x + 1))) read
          (counted leader c.loop-number.number at sizes (c.loop-number.invariant.each leader h) (c.find-leader.ensures.leader leader (c.loop-number.invariant.same leader h)) within);
    }
