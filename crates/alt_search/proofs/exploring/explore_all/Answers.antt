use Rattle.std.proofs.Common.{refl, arith}
use Rattle.std.proofs.lemmas.Result.{IfOk-weaker}
use Rattle.walk_rules.proofs.Walking.{flat_feasible}
use Rattle.alt_search.specs.Exploring.{weight_in}
use Rattle.alt_search.proofs.Telling.{all_told}
use Rattle.alt_search.proofs.exploring.explore_all.Goals as goal

pub returns-clause-each : goal.returns-clause-each
returns-clause-each g c =
    let network = g.V.RoadView.network c.args.view.now in
    let past = c.node_count.result in
    IfOk-weaker c.explore.result _ _
    (λ explored least node. all_told network c.args.start.0 past (weight_in explored) least (g.met.V.RoadView.leads c.args.view.now) c.requires.start (omega (arith, c.node_count.ensures)) node (weight_in explored node) refl)
    (c.explore.ensures.least (flat_feasible network past).along)
