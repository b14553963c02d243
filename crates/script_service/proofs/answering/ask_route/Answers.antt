use Rattle.std.proofs.Common.{◌≡◌, ◌∙◌, ℕ, ap, subst}
use Rattle.model_eval.specs.declared.custom_model.CustomModel.{CustomModel}
use Rattle.traffic_core.specs.Answers.{Asked}
use Rattle.traffic_core.specs.Queries.{IsRightAfter}
use Rattle.script_service.specs.Replying.{asks_under}
use Rattle.script_service.proofs.answering.ask_route.Goals as goal

pub returns-clause-right : goal.returns-clause-right
returns-clause-right g c =
    let land = g.J.Naming.land in
    let h = c.args.seat.now.entries in
    let rule = c.args.session.now in
    let answer = c.in_ok-at.field-0.answer in
    let asks : ℕ → CustomModel → Asked = λ profile model. record { profile = profile; model = model; from = c.args.from; to = c.args.to; labels = c.args.labels } in
    let is : asks c.profile.result c.model.result.now ≡ asks_under rule c.args.from c.args.to c.args.labels =
    ap (λ p. asks p c.model.result.now) c.profile.ensures ∙ ap (asks rule.profile) c.model.ensures in
    let right : IsRightAfter land h (asks_under rule c.args.from c.args.to c.args.labels) answer = subst (λ (a : Asked). IsRightAfter land h a answer) is c.in_ok-at.ensures.right in
    record { guide = right.0; guide_is = right.1; route = record { answer = answer; right = right.2; printed = c.reply_of.ensures } }
