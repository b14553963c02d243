use Rattle.std.proofs.Common.{[], subst}
use Rattle.landmark_prep.specs.Answers.{IfPrep}
use Rattle.traffic_core.specs.Lands.{Land}
use Rattle.traffic_core.specs.Truth.{IsPrepAt, IsNoPrepAt}
use Rattle.map_roads.proofs.Made.{true_made, guide_made}
use Rattle.map_roads.proofs.opening.prepare_opening.Goals as goal

pub prepare_at-requires-clause-stands : goal.prepare_at-requires-clause-stands
prepare_at-requires-clause-stands g c κs within = ([], c.in_ok-state.ensures.stands)

pub returns-clause-guide : goal.returns-clause-guide
returns-clause-guide g c =
    let made = c.in_ok-made in
    let state = c.in_ok-state.ensures in
    guide_made made.made c.args.ground.now c.args.count
    (subst (λ (land : Land). IfPrep made.made (λ prep. IsPrepAt land [] 0 c.args.count prep)) state.land (made.ensures.prep [] state.stands))
    (λ none. subst (λ (land : Land). IsNoPrepAt land [] 0) state.land (made.ensures.none [] state.stands none))

pub returns-clause-true_over : goal.returns-clause-true_over
returns-clause-true_over g c =
    let made = c.in_ok-made in
    let state = c.in_ok-state.ensures in
    true_made made.made c.args.ground.now c.args.count c.preparations_are_one.ensures.count c.requires.there
    (subst (λ (land : Land). IfPrep made.made (λ prep. IsPrepAt land [] 0 c.args.count prep)) state.land (made.ensures.prep [] state.stands))
