use Rattle.std.proofs.Common.{List, sym, subst, ◌∙◌, inl, inr, arith}
use Rattle.std.proofs.lemmas.List.{length-map}
use Rattle.gh_base.specs.declared.edges.NodeId.{NodeId}
use Rattle.landmark_prep.specs.Preparations.{IsPlacing}
use Rattle.prep_store.specs.FirstFaults.{FailsInLists}
use Rattle.prep_store.specs.Readings.{place, Fails}
use Rattle.prep_store.specs.Steps.{AreRead, FailsBehindLimits}
use Rattle.prep_store.proofs.Telling.{taken_then, fails_as, fails_behind, handed_on}
use Rattle.prep_store.proofs.Faulting.{length-words}
use Rattle.prep_store.proofs.Tables.{numbers}
use Rattle.prep_store.proofs.Wholes.{placed_within, behind_landmarks}
use Rattle.prep_store.proofs.reading.read_over.Goals as goal

pub returns-in_err-placing-clause-fails : goal.returns-in_err-placing-clause-fails
returns-in_err-placing-clause-fails g c =
    handed_on (FailsBehindLimits (g.V.RoadView.network c.args.out.now) (g.W.RoadView.network c.args.back.now) c.args.count) c.from_residual.result c.from_residual.ensures.1 (fails_as c.in_err-placing.ensures.fails (λ total rest f. inl f))

pub check_grain-requires : goal.check_grain-requires
check_grain-requires g c =
    let nodes = c.in_ok-placing.placing.landmarks in
    omega (arith, c.in_ok-placing.ensures.text.counted, length-words (numbers nodes), length-map nodes (λ (node : NodeId). node.0), c.in_ok-placing.ensures.all)

pub read_lists-requires-clause-small : goal.read_lists-requires-clause-small
read_lists-requires-clause-small g c =
    let nodes = c.in_ok-placing.placing.landmarks in
    omega (arith, c.in_ok-placing.ensures.text.counted, length-words (numbers nodes), length-map nodes (λ (node : NodeId). node.0), c.in_ok-placing.ensures.all, c.in_ok-check_grain.ensures.text.counted)

pub returns-in_err-check_grain-clause-fails : goal.returns-in_err-check_grain-clause-fails
returns-in_err-check_grain-clause-fails g c =
    let network = g.V.RoadView.network c.args.out.now in
    let back = g.W.RoadView.network c.args.back.now in
    let placing = c.in_ok-placing.ensures in
    let nodes = c.in_ok-placing.placing.landmarks in
    handed_on (FailsBehindLimits network back c.args.count) c.from_residual-in_err-check_grain.result c.from_residual-in_err-check_grain.ensures.1
    (behind_landmarks network back c.args.count (numbers nodes) c.in_ok-placing.placing.grain placing.text (length-map nodes (λ (node : NodeId). node.0) ∙ placing.all) placing.placing (fails_as c.in_err-check_grain.ensures.fails (λ total rest f. inl f)))

pub read_lists-requires-clause-landmarks : goal.read_lists-requires-clause-landmarks
read_lists-requires-clause-landmarks g c =
    let network = g.V.RoadView.network c.args.out.now in
    let placed : IsPlacing network c.args.count (numbers c.as_slice-nodes.result.now) c.in_ok-placing.placing.grain =
    subst (λ (ns : List NodeId). IsPlacing network c.args.count (numbers ns) c.in_ok-placing.placing.grain) (sym c.as_slice-nodes.ensures) c.in_ok-placing.ensures.placing in
    placed_within network c.args.count c.as_slice-nodes.result.now c.in_ok-placing.placing.grain (g.met.V.RoadView.leads c.args.out.now) placed

pub returns-in_err-labels-clause-fails : goal.returns-in_err-labels-clause-fails
returns-in_err-labels-clause-fails g c =
    let network = g.V.RoadView.network c.args.out.now in
    let back = g.W.RoadView.network c.args.back.now in
    let seen = place g.S.Source.left g.S.Source.faults g.S.Source.mark in
    let placing = c.in_ok-placing.ensures in
    let nodes = c.in_ok-placing.placing.landmarks in
    let grain = c.in_ok-placing.placing.grain in
    let failed : Fails (FailsInLists network back grain (numbers nodes)) (seen c.check_grain.new.source c.check_grain.new.at) (seen c.read_lists.new.source c.read_lists.new.at) c.in_err-labels.field-0.0 =
    subst (λ (ns : List NodeId). Fails (FailsInLists network back grain (numbers ns)) (seen c.check_grain.new.source c.check_grain.new.at) (seen c.read_lists.new.source c.read_lists.new.at) c.in_err-labels.field-0.0) c.as_slice-nodes.ensures c.in_err-labels.ensures.fails in
    handed_on (FailsBehindLimits network back c.args.count) c.from_residual-in_err-labels.result c.from_residual-in_err-labels.ensures.1
    (behind_landmarks network back c.args.count (numbers nodes) grain placing.text (length-map nodes (λ (node : NodeId). node.0) ∙ placing.all) placing.placing
    (fails_behind c.in_ok-check_grain.ensures.text failed (λ total rest after e f. inr (after, e, f))))

pub returns-clause-read : goal.returns-clause-read
returns-clause-read g c =
    let placing = c.in_ok-placing.ensures in
    let nodes = c.in_ok-placing.placing.landmarks in
    let read = c.in_ok-labels.ensures.read in (
      read.0,
      taken_then placing.text (taken_then c.in_ok-check_grain.ensures.text read.1),
      record {
        all = length-map nodes (λ (node : NodeId). node.0) ∙ placing.all;
        placing = placing.placing;
        read = subst (λ (ns : List NodeId). AreRead (g.V.RoadView.network c.args.out.now) (g.W.RoadView.network c.args.back.now) c.in_ok-placing.placing.grain (numbers ns) read.0 c.in_ok-labels.labels) c.as_slice-nodes.ensures read.2;
      },
    )
