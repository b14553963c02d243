use Rattle.walk_rules.specs.Distances.{label_at}
use Rattle.walk_rules.specs.Evidence.{violates}
use Rattle.walk_rules.proofs.Showing.{evidence_least}
use Rattle.label_certificate.proofs.Reasons.{with_ends}
use Rattle.label_certificate.proofs.Shown.{walk_accepts, shows}
use Rattle.label_certificate.proofs.checking.check_walk.Goals as goal

pub returns-then-not-label_ends-clause-accepts : goal.returns-then-not-label_ends-clause-accepts
returns-then-not-label_ends-clause-accepts g c = (λ no. absurd (cc), λ e. absurd (let a = c.label_ends.ensures.1 (e.at_start, e.at_target) in let b = c.if-not-label_ends.true in cc))

pub returns-then-not-label_ends-clause-reason : goal.returns-then-not-label_ends-clause-reason
returns-then-not-label_ends-clause-reason g c = λ ends. let a = c.label_ends.ensures.1 ends in let b = c.if-not-label_ends.true in cc

pub returns-clause-accepts : goal.returns-clause-accepts
returns-clause-accepts g c =
    let ends = c.label_ends.ensures.0 c.if-not-label_ends.false in
    walk_accepts (g.V.RoadView.network c.args.view.now) c.args.labels.now c.args.start.0 c.args.target.0 c.args.weight c.requires.labels ends.0 ends.1 c.test_hops.result c.test_hops.ensures.none c.test_hops.ensures.first

pub returns-clause-least : goal.returns-clause-least
returns-clause-least g c =
    let ends = c.label_ends.ensures.0 c.if-not-label_ends.false in
    let network = g.V.RoadView.network c.args.view.now in
    shows _ _ c.test_hops.result (λ e. evidence_least network (label_at c.args.labels.now) c.args.start.0 c.args.target.0 c.args.weight e)
    (walk_accepts network c.args.labels.now c.args.start.0 c.args.target.0 c.args.weight c.requires.labels ends.0 ends.1 c.test_hops.result c.test_hops.ensures.none c.test_hops.ensures.first)

pub returns-clause-reason : goal.returns-clause-reason
returns-clause-reason g c = with_ends (g.V.RoadView.network c.args.view.now) (violates (label_at c.args.labels.now)) _ (c.label_ends.ensures.0 c.if-not-label_ends.false) c.test_hops.result c.test_hops.ensures.first
