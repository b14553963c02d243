use Rattle.std.proofs.lemmas.Result.{IfOk-weaker}
use Rattle.std.proofs.Common.{subst, sym}
use Rattle.std.specs.Option.{IfSome}
use Rattle.traffic_core.specs.Answers.{asked, IsRightAnswer}
use Rattle.traffic_core.specs.History.{limit_in}
use Rattle.traffic_core.specs.Lands.{Land}
use Rattle.traffic_core.specs.Seen.{seen}
use Rattle.traffic_core.specs.Truth.{IsTrueOver}
use Rattle.traffic_core.proofs.Asking.{right_after}
use Rattle.traffic_core.proofs.query.RouteQueryQuery.ask.Goals as goal

pub returns : goal.returns
returns c =
    let land = c.args.state.now.land in
    let asks = asked c.args.self.now in
    IfOk-weaker c.route.result _ _ (λ answer right h stands guide.
    right_after land h c.args.state.now.limits asks (seen c.args.prep) answer stands.limits guide
    (subst (λ (ground : Land). IsRightAnswer ground (limit_in c.args.state.now.limits) (seen c.args.prep) asks answer) c.ground-ground.ensures right))
    (c.route.ensures.right (subst (λ (ground : Land). IfSome c.args.prep (λ p. IsTrueOver ground p.now)) (sym c.ground-ground.ensures) c.requires.truth))
