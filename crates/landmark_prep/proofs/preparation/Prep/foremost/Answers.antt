use Rattle.std.proofs.Common.{ℕ, ◌+◌, Option, subst, sym}
use Rattle.landmark_prep.specs.Bounds.{bound_of, labels_at}
use Rattle.landmark_prep.specs.Choosing.{IsBestSoFar}
use Rattle.landmark_prep.proofs.Foremost.{best_passes, best_is_new, best_is_old}
use Rattle.landmark_prep.proofs.preparation.Prep.foremost.Goals as goal
use Rattle.landmark_prep.proofs.preparation.Prep.foremost.Goals.{then-is_better, else-is_better}

pub loop-place-preserved-then-has : goal.loop-place-preserved-then-has
loop-place-preserved-then-has c =
    best_passes (λ place. bound_of (labels_at c.args.self.now.labels place) c.args.from.0 c.args.to.0) c.args.active.now c.loop-place.place c.loop-place.best c.loop-place.invariant (c.has.ensures.0 c.if-has.true)

pub loop-place-preserved : goal.loop-place-preserved
loop-place-preserved c =
    let bound : ℕ → Option ℕ = λ place. bound_of (labels_at c.args.self.now.labels place) c.args.from.0 c.args.to.0 in
    elim c.if-is_better.branch [
      | then-is_better w ↦
          subst (λ (b : Option (ℕ × Option ℕ)). IsBestSoFar bound c.args.active.now (c.loop-place.place + 1) b) (sym w.best-is)
          (best_is_new bound c.args.active.now c.loop-place.place c.loop-place.best c.bound_from_one-bound.result c.is_better.result c.bound_from_one-bound.ensures c.loop-place.invariant (λ among. absurd (let t = c.has.ensures.1 among in let f = c.if-has.false in cc)) c.is_better.ensures.more w.if-is_better.true)
      | else-is_better w ↦
          subst (λ (b : Option (ℕ × Option ℕ)). IsBestSoFar bound c.args.active.now (c.loop-place.place + 1) b) (sym w.best-is)
          (best_is_old bound c.args.active.now c.loop-place.place c.loop-place.best c.bound_from_one-bound.result c.is_better.result c.bound_from_one-bound.ensures c.loop-place.invariant c.is_better.ensures.first c.is_better.ensures.more w.if-is_better.false)
    ]
