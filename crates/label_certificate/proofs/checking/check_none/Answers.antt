use Rattle.walk_rules.specs.Evidence.{leads_out}
use Rattle.walk_rules.proofs.Showing.{closed_none}
use Rattle.label_certificate.specs.Refuting.{is_in}
use Rattle.label_certificate.proofs.Reasons.{with_ends}
use Rattle.label_certificate.proofs.Shown.{none_accepts, shows}
use Rattle.label_certificate.proofs.checking.check_none.Goals as goal

pub returns-then-not-set_ends-clause-accepts : goal.returns-then-not-set_ends-clause-accepts
returns-then-not-set_ends-clause-accepts g c = (λ no. absurd (cc), λ e. absurd (let a = c.set_ends.ensures.1 (e.at_start, e.at_target) in let b = c.if-not-set_ends.true in cc))

pub returns-then-not-set_ends-clause-reason : goal.returns-then-not-set_ends-clause-reason
returns-then-not-set_ends-clause-reason g c = λ ends. let a = c.set_ends.ensures.1 ends in let b = c.if-not-set_ends.true in cc

pub returns-clause-accepts : goal.returns-clause-accepts
returns-clause-accepts g c =
    let ends = c.set_ends.ensures.0 c.if-not-set_ends.false in
    none_accepts (g.V.RoadView.network c.args.view.now) c.args.closed.now c.args.start.0 c.args.target.0 c.requires.set ends.0 ends.1 c.test_hops.result c.test_hops.ensures.none c.test_hops.ensures.first

pub returns-clause-none : goal.returns-clause-none
returns-clause-none g c =
    let ends = c.set_ends.ensures.0 c.if-not-set_ends.false in
    let network = g.V.RoadView.network c.args.view.now in
    shows _ _ c.test_hops.result (λ e. closed_none network (is_in c.args.closed.now) c.args.start.0 c.args.target.0 e)
    (none_accepts network c.args.closed.now c.args.start.0 c.args.target.0 c.requires.set ends.0 ends.1 c.test_hops.result c.test_hops.ensures.none c.test_hops.ensures.first)

pub returns-clause-reason : goal.returns-clause-reason
returns-clause-reason g c = with_ends (g.V.RoadView.network c.args.view.now) (leads_out (is_in c.args.closed.now)) _ (c.set_ends.ensures.0 c.if-not-set_ends.false) c.test_hops.result c.test_hops.ensures.first
