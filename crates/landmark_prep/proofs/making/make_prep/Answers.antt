use Rattle.std.proofs.Common.{◌<◌, All, List, refl, subst, sym, arith}
use Rattle.std.proofs.lemmas.List.{length-map}
use Rattle.gh_base.specs.declared.edges.NodeId.{NodeId}
use Rattle.landmark_prep.proofs.Prepared.{placing_of, coarse_of, open_not_barred, chosen_within, parts_made, prep_made}
use Rattle.landmark_prep.proofs.making.make_prep.Goals as goal

pub spread_all-requires-clause-nodes : goal.spread_all-requires-clause-nodes
spread_all-requires-clause-nodes g c κs within =
    let network = g.V.RoadView.network c.args.out.now in
    let placing = placing_of network c.args.count c.in_ok-placing.field-0 c.in-Some.placing c.in_ok-placing.ensures.placing c.in-Some.is in
    let laws = g.met.V.RoadView g.world.𝓛 g.world.𝓜 g.world.𝓡 ((λ s x. x), (λ x. x), (λ x. x), λ x. x) in
    subst (λ (xs : List NodeId). All (λ landmark. landmark.0 < network.nodes) xs) (sym c.as_slice.ensures)
    (chosen_within network placing.start c.in-Some.placing.landmarks (laws.leads c.args.out.now) placing.start_is.within placing.landmarks_are.each)

pub of_parts-requires : goal.of_parts-requires
of_parts-requires g c =
    let network = g.V.RoadView.network c.args.out.now in
    let placing = placing_of network c.args.count c.in_ok-placing.field-0 c.in-Some.placing c.in_ok-placing.ensures.placing c.in-Some.is in
    let coarse = coarse_of c.in_ok-placing.field-0 c.in-Some.placing c.in_ok-placing.ensures.coarse c.in-Some.is in
    let chosen = c.in-Some.placing.landmarks in
    let long = length-map chosen (λ (node : NodeId). node.0) in
    let some = placing.landmarks_are.each.some in
    let within = placing.landmarks_are.within in
    let fine = placing.grain_is in
    parts_made network c.in-Some.placing.grain chosen c.in_ok-labels.labels (omega arith) (omega arith) (omega (arith, fine)) coarse
    (rw c.as_slice.ensures at c.in_ok-labels.ensures)

pub returns-clause-prep : goal.returns-clause-prep
returns-clause-prep g c =
    let network = g.V.RoadView.network c.args.out.now in
    let placing = placing_of network c.args.count c.in_ok-placing.field-0 c.in-Some.placing c.in_ok-placing.ensures.placing c.in-Some.is in
    rw c.of_parts.ensures (prep_made network c.args.count c.in-Some.placing.landmarks c.args.profile c.in-Some.placing.grain c.args.snapshot c.in_ok-labels.labels placing (rw c.as_slice.ensures at c.in_ok-labels.ensures))

pub returns-clause-none : goal.returns-clause-none
returns-clause-none g c =
    let network = g.V.RoadView.network c.args.out.now in
    let placing = placing_of network c.args.count c.in_ok-placing.field-0 c.in-Some.placing c.in_ok-placing.ensures.placing c.in-Some.is in
    (λ no. absurd no, λ barred. absurd (open_not_barred network placing.some barred))

pub returns-in_default-clause-none : goal.returns-in_default-clause-none
returns-in_default-clause-none g c =
    (λ _. c.in_ok-placing.ensures.none.0 (rw c.in_default.is refl), λ _. tt)
