use Rattle.std.proofs.Common.{◌≡◌, List, ℕ, refl, subst}
use Rattle.landmark_prep.specs.Answers.{IfPrep}
use Rattle.traffic_share.proofs.PreparationsAfter.{made_after, barred_after}
use Rattle.traffic_share.proofs.seat.preparing.prepare_at.Goals as goal

pub make_over-requires-clause-limits : goal.make_over-requires-clause-limits
make_over-requires-clause-limits g c κs within =
    rw (c.in_ok-limits.ensures, c.ground-ground.ensures) c.requires.stands.1.limits.long

pub returns-clause-prep : goal.returns-clause-prep
returns-clause-prep g c = λ h stands.
    made_after c.args.state.now.land c.ground-ground.result.now h c.args.state.now c.in_ok-limits.limits c.args.profile c.args.count c.in_ok-made.made
    stands refl c.ground-ground.ensures c.in_ok-limits.ensures c.in_ok-made.ensures.prep c.in_ok-made.ensures.profile
    (subst (λ (ls : List ℕ). IfPrep c.in_ok-made.made (λ prep. prep.snapshot ≡ ls)) c.in_ok-snapshot.ensures c.in_ok-made.ensures.snapshot)

pub returns-clause-none : goal.returns-clause-none
returns-clause-none g c = λ h stands none.
    barred_after c.args.state.now.land c.ground-ground.result.now h c.args.state.now c.in_ok-limits.limits c.args.profile
    stands refl c.ground-ground.ensures c.in_ok-limits.ensures (c.in_ok-made.ensures.none none)
