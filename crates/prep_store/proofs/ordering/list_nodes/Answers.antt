use Rattle.std.proofs.Common.{◌≡◌, ◌<◌, ◌-◌, ◌∙◌, None, ◌++◌, ◌∷◌, [], ℕ, List, Option, length, length-set, sym, subst, ap, refl, arith}
use Rattle.std.specs.Prelude.{slice_set}
use Rattle.std.proofs.lemmas.List.{length-replicate}
use Rattle.gh_base.specs.declared.edges.NodeId.{NodeId}
use Rattle.gh_base.specs.Networks.{Network}
use Rattle.walk_rules.specs.Walks.{hops_from}
use Rattle.prep_store.specs.declared.item.Item.{Item}
use Rattle.prep_store.specs.Steps.{Listed}
use Rattle.prep_store.specs.Ordering.{told_label, IsOpen, IsOpenBut, IsUnderway}
use Rattle.prep_store.proofs.Candidates.{listed_next}
use Rattle.prep_store.proofs.Underway.{popped, underway_first, underway_more, underway_end, fewer_left}
use Rattle.prep_store.proofs.ordering.list_nodes.Goals as goal

pub nodes-init : goal.nodes-init
nodes-init g c =
    let network = g.V.RoadView.network c.args.view.now in
    let labels = told_label c.args.told.now.prep.now c.args.told.now.landmark c.args.told.now.back in
    let first : Item = record { node = c.args.landmark; label = 0 } in
    let e = c.in_ok-list_next.ensures in
    let count : c.node_count-count.result ≡ network.nodes = c.node_count-count.ensures ∙ ap (λ (n : Network). n.nodes) c.again-roads.ensures.network in
    let empty : c.in_ok-listing.listing ≡ record { nodes = network.nodes; items = [] } = c.in_ok-listing.ensures ∙ ap (λ (n : ℕ). record { nodes = n; items = [] }) count in
    let listing : c.list_next.new.listing ≡ record { nodes = network.nodes; items = first ∷ [] } =
    e.listed ∙ ap (λ (v : Listed). record { nodes = v.nodes; items = v.items ++ first ∷ [] }) empty in
    let keyed : IsOpen network c.args.grain labels (first ∷ []) c.list_next.new.queue =
    subst (λ (v : Listed). IsOpen network c.args.grain labels (v.items ++ first ∷ []) c.list_next.new.queue) empty
    (subst (λ (n : Network). IsOpen n c.args.grain labels (c.in_ok-listing.listing.items ++ first ∷ []) c.list_next.new.queue) c.again-roads.ensures.network e.keyed) in
    record {
      same = e.network ∙ c.again-roads.ensures.network;
      underway = subst (λ (v : Listed). IsUnderway network c.args.grain c.args.landmark.0 labels (g.V.RoadView.starts c.list_next.new.view) v c.list_next.new.queue) (sym listing)
          (underway_first network c.args.grain c.args.landmark.0 labels c.list_next.new.queue (g.V.RoadView.starts c.list_next.new.view) first
          (omega (arith, count, c.node_count-count.type_inv)) c.requires.node
          (e.keys ∙ (ap length c.in_ok-queue.ensures ∙ (length-replicate c.node_count-count.result _ ∙ count)))
          (e.starts ∙ omega (arith, c.again-roads.ensures.starts)) refl refl keyed);
    }

pub list_next-requires-in-Some-clause-label : goal.list_next-requires-in-Some-clause-label
list_next-requires-in-Some-clause-label g c =
    let next = popped c.nodes.invariant.underway (g.met.V.RoadView.leads c.args.view.now) c.item_of-item.result c.in-Some.node c.in-Some.key c.in-Some.ensures.found c.in-Some.ensures.least c.item_of-item.ensures.node c.item_of-item.ensures.label in
    omega (arith, next.2)

pub list_next-requires-in-Some-clause-new : goal.list_next-requires-in-Some-clause-new
list_next-requires-in-Some-clause-new g c =
    let next = popped c.nodes.invariant.underway (g.met.V.RoadView.leads c.args.view.now) c.item_of-item.result c.in-Some.node c.in-Some.key c.in-Some.ensures.found c.in-Some.ensures.least c.item_of-item.ensures.node c.item_of-item.ensures.label in
    next.0.candidate.new

pub list_next-requires-in-Some-clause-keyed : goal.list_next-requires-in-Some-clause-keyed
list_next-requires-in-Some-clause-keyed g c =
    let network = g.V.RoadView.network c.args.view.now in
    let labels = told_label c.args.told.now.prep.now c.args.told.now.landmark c.args.told.now.back in
    let item = c.item_of-item.result in
    let keys : slice_set c.nodes.queue item.node.0 None ≡ c.pop_least.new.self = ap (λ (n : NodeId). slice_set c.nodes.queue n.0 None) c.item_of-item.ensures.node ∙ sym c.in-Some.ensures.taken in
    subst (λ (n : Network). IsOpenBut n c.args.grain labels (c.nodes.listing.items ++ item ∷ []) item.label (hops_from n item.node.0) c.pop_least.new.self) (sym c.nodes.invariant.same)
    (subst (λ (ks : List (Option ℕ)). IsOpenBut network c.args.grain labels (c.nodes.listing.items ++ item ∷ []) item.label (hops_from network item.node.0) ks) keys
    (listed_next network c.args.grain labels c.nodes.listing.items c.nodes.queue item c.nodes.invariant.underway.keyed))

pub nodes-smaller : goal.nodes-smaller
nodes-smaller g c =
    let network = g.V.RoadView.network c.args.view.now in
    let next = popped c.nodes.invariant.underway (g.met.V.RoadView.leads c.args.view.now) c.item_of-item.result c.in-Some.node c.in-Some.key c.in-Some.ensures.found c.in-Some.ensures.least c.item_of-item.ensures.node c.item_of-item.ensures.label in
    subst (λ (v : Listed). network.nodes - length v.items < network.nodes - length c.nodes.listing.items) (sym c.in_ok-list_next-2.ensures.listed)
    (fewer_left c.nodes.listing.items c.item_of-item.result network.nodes next.1 next.0.candidate.new c.nodes.invariant.underway.counted)

pub nodes-preserved : goal.nodes-preserved
nodes-preserved g c =
    let network = g.V.RoadView.network c.args.view.now in
    let labels = told_label c.args.told.now.prep.now c.args.told.now.landmark c.args.told.now.back in
    let i = c.nodes.invariant in
    let f = c.in_ok-list_next-2.ensures in
    let next = popped c.nodes.invariant.underway (g.met.V.RoadView.leads c.args.view.now) c.item_of-item.result c.in-Some.node c.in-Some.key c.in-Some.ensures.found c.in-Some.ensures.least c.item_of-item.ensures.node c.item_of-item.ensures.label in
    record {
      same = f.network ∙ i.same;
      underway = subst (λ (v : Listed). IsUnderway network c.args.grain c.args.landmark.0 labels (g.V.RoadView.starts c.list_next-in-Some.new.view) v c.list_next-in-Some.new.queue) (sym f.listed)
          (underway_more c.list_next-in-Some.new.queue (g.V.RoadView.starts c.list_next-in-Some.new.view) i.underway next.0 next.1
          (f.keys ∙ (ap length c.in-Some.ensures.taken ∙ (length-set c.nodes.queue c.in-Some.node.0 None ∙ i.underway.long))) f.starts
          (subst (λ (n : Network). IsOpen n c.args.grain labels (c.nodes.listing.items ++ c.item_of-item.result ∷ []) c.list_next-in-Some.new.queue) i.same f.keyed));
    }

pub returns-clause-listing : goal.returns-clause-listing
returns-clause-listing g c = underway_end c.nodes.invariant.underway c.in_default.ensures.none
