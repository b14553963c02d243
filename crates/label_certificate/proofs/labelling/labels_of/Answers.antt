use Rattle.std.proofs.Common.{◌≡◌, None, sym, ap, ◌∙◌, arith}
use Rattle.std.proofs.lemmas.List.{get_or_past}
use Rattle.std.proofs.lemmas.Result.{IfOk-weaker}
use Rattle.walk_rules.specs.Distances.{label_at}
use Rattle.walk_rules.proofs.Labelling.{right_label, labels_are_evidence}
use Rattle.label_certificate.proofs.Results.{both_ok}
use Rattle.label_certificate.proofs.labelling.labels_of.Goals as goal

pub labels_by-requires : goal.labels_by-requires
labels_by-requires g c = c.node_count.ensures ∙ ap (λ n. n.nodes) c.in_ok-explored.ensures.network ∙ sym c.in_ok-explored.ensures.nodes

pub returns-clause-labels : goal.returns-clause-labels
returns-clause-labels g c = λ f l.
    let count : c.node_count.result ≡ (g.V.RoadView.network c.args.view.now).nodes = c.node_count.ensures ∙ ap (λ n. n.nodes) c.in_ok-explored.ensures.network in
    IfOk-weaker c.labels_by.result _ _
    (λ labels each node less. right_label (c.in_ok-explored.ensures.least f.along) l node (label_at labels node) (each node (omega arith)))
    c.labels_by.ensures.each

pub returns-clause-evidence : goal.returns-clause-evidence
returns-clause-evidence g c = λ f l.
    let network = g.V.RoadView.network c.args.view.now in
    let count : c.node_count.result ≡ network.nodes = c.node_count.ensures ∙ ap (λ n. n.nodes) c.in_ok-explored.ensures.network in
    both_ok c.labels_by.result _ _ _
    (λ labels each long. labels_are_evidence network (g.P.Potential.bound c.args.potential.now) c.args.start.0 c.args.target.0 c.args.weight (label_at labels) (g.met.V.RoadView.leads c.args.view.now) f l
    (λ node less. right_label (c.in_ok-explored.ensures.least f.along) l node (label_at labels node) (each node (omega arith)))
    c.requires.start c.requires.target (λ node far. get_or_past labels node None (omega arith)))
    c.labels_by.ensures.each c.labels_by.ensures.nodes

pub returns-clause-nodes : goal.returns-clause-nodes
returns-clause-nodes g c =
    let count : c.node_count.result ≡ (g.V.RoadView.network c.args.view.now).nodes = c.node_count.ensures ∙ ap (λ n. n.nodes) c.in_ok-explored.ensures.network in
    IfOk-weaker c.labels_by.result _ _ (λ labels long. long ∙ count) c.labels_by.ensures.nodes
