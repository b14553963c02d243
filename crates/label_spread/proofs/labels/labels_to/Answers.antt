use Rattle.std.proofs.Common.{◌^◌}
use Rattle.std.proofs.lemmas.Result.{IfOk-weaker}
use Rattle.walk_rules.specs.Distances.{label_at}
use Rattle.walk_rules.proofs.Turning.{turned_label}
use Rattle.label_spread.proofs.labels.labels_to.Goals as goal

pub returns-clause-each : goal.returns-clause-each
returns-clause-each g c =
    IfOk-weaker c.labels_from.result _ _
    (λ labels each out t node. turned_label out _ t (2 ^ 62) c.args.node.0 node (label_at labels node) (each node))
    c.labels_from.ensures.each
