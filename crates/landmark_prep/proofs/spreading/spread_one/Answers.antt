use Rattle.std.proofs.Common.{◌∙◌, ap, arith}
use Rattle.std.proofs.lemmas.Result.{IfOk-weaker}
use Rattle.walk_rules.specs.Distances.{in_grains}
use Rattle.landmark_prep.proofs.Spread.{row_from, row_to}
use Rattle.landmark_prep.proofs.spreading.spread_one.Goals as goal

pub returns-in_ok-labels-in-From : goal.returns-in_ok-labels-in-From
returns-in_ok-labels-in-From g c =
    let view = c.new-view.ensures.network ∙ ap (in_grains c.args.grain) c.again.ensures.network in
    IfOk-weaker c.pack_labels.result _ _
    (λ row same. row_from (g.V.RoadView.network c.args.out.now) _ c.args.grain c.args.job c.in_ok-labels-in-From.labels row c.in-From.is view same c.in_ok-labels-in-From.ensures.count c.in_ok-labels-in-From.ensures.each c.node_count-count.result c.node_count-count.ensures (omega arith) c.requires.fine c.requires.coarse)
    c.pack_labels.ensures

pub returns-in_ok-labels-in-To : goal.returns-in_ok-labels-in-To
returns-in_ok-labels-in-To g c =
    let view = c.new-view-in-To.ensures.network ∙ ap (in_grains c.args.grain) c.again-in-To.ensures.network in
    IfOk-weaker c.pack_labels-in-To.result _ _
    (λ row same. row_to (g.V.RoadView.network c.args.out.now) _ c.args.grain c.args.job c.in_ok-labels-in-To.labels row (g.W.RoadView.network c.args.back.now) c.in-To.is view c.requires.turned same c.in_ok-labels-in-To.ensures.count c.in_ok-labels-in-To.ensures.each c.node_count-count.result c.node_count-count.ensures (omega arith) c.requires.fine c.requires.coarse)
    c.pack_labels-in-To.ensures
