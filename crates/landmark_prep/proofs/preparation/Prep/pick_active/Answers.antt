use Rattle.std.proofs.Common.{ℕ, List, [], ◌∷◌, length, length-append, subst, sym, ap, arith}
use Rattle.landmark_prep.specs.Bounds.{bound_of, labels_at}
use Rattle.landmark_prep.specs.Choosing.{AreForemost}
use Rattle.landmark_prep.proofs.Foremost.{foremost_more, all_among}
use Rattle.landmark_prep.proofs.preparation.Prep.pick_active.Goals as goal

-- there are fewer than landmarks
pub unreachable-requires : goal.unreachable-requires
unreachable-requires c = omega (arith, all_among c.picks.active (length c.args.self.now.landmarks) c.in_default.ensures.none, c.min-most.ensures, c.len.ensures, c.landmark_count.ensures)

pub picks-preserved : goal.picks-preserved
picks-preserved c =
    record {
      foremost = subst (λ (xs : List ℕ). AreForemost (λ place. bound_of (labels_at c.args.self.now.labels place) c.args.from.0 c.args.to.0) (length c.args.self.now.landmarks) xs) (sym c.push.ensures)
          (foremost_more (λ place. bound_of (labels_at c.args.self.now.labels place) c.args.from.0 c.args.to.0) (length c.args.self.now.landmarks) c.picks.active c.in-Some.place c.picks.invariant.foremost c.in-Some.ensures.some);
      few = omega (arith, ap length c.push.ensures, length-append c.picks.active (c.in-Some.place ∷ []), c.len.ensures);
    }
