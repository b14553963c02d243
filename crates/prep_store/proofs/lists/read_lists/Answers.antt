use Rattle.std.proofs.Common.{◌++◌, ◌∷◌, [], ℕ, List, take, slice_index_or, map, refl, sym, subst, ◌∙◌, arith}
use Rattle.landmark_prep.specs.declared.labels.PackedLabels.{PackedLabels}
use Rattle.landmark_prep.specs.Packing.{unpacked, AreLong}
use Rattle.prep_store.specs.Evidence.{AreListed}
use Rattle.prep_store.specs.Stores.{Lists}
use Rattle.prep_store.specs.FirstFaults.{FailsInLists}
use Rattle.prep_store.specs.Steps.{AreRead}
use Rattle.prep_store.proofs.Telling.{none_taken, taken_then, taken_as, out_of_memory, handed_on}
use Rattle.prep_store.proofs.Tables.{numbers, numbers_next, pair_fails, none_read, read_push, listing_listed, lists_push}
use Rattle.prep_store.proofs.lists.read_lists.Goals as goal

pub lists-init : goal.lists-init
lists-init g c =
    let network = g.V.RoadView.network c.args.out.now in
    let back = g.W.RoadView.network c.args.back.now in
    record {
      read = ([], none_taken _, subst (λ (t : List PackedLabels). AreRead network back c.args.grain [] [] t) (sym c.new-table.ensures) (none_read network back c.args.grain));
      bounded = omega arith;
      end = refl;
    }

pub returns-in_err-from-clause-fails : goal.returns-in_err-from-clause-fails
returns-in_err-from-clause-fails g c =
    let network = g.V.RoadView.network c.args.out.now in
    let back = g.W.RoadView.network c.args.back.now in
    let read = c.lists.invariant.read in
    handed_on (FailsInLists network back c.args.grain (numbers c.args.landmarks.now)) c.from_residual.result c.from_residual.ensures.1
    (pair_fails network back c.args.grain c.args.landmarks.now c.lists.place (record { 0 = 0 }) read.0 c.lists.table c.lists-test.true read.2 read.1 c.in_err-from.ensures.fails)

pub returns-in_err-push-clause-fails : goal.returns-in_err-push-clause-fails
returns-in_err-push-clause-fails g c =
    handed_on (FailsInLists (g.V.RoadView.network c.args.out.now) (g.W.RoadView.network c.args.back.now) c.args.grain (numbers c.args.landmarks.now)) c.from_residual-in_err-push.result c.from_residual-in_err-push.ensures.1
    (out_of_memory (taken_then c.lists.invariant.read.1 c.in_ok-from.ensures.text))

pub lists-preserved : goal.lists-preserved
lists-preserved g c =
    let network = g.V.RoadView.network c.args.out.now in
    let back = g.W.RoadView.network c.args.back.now in
    let grain = c.args.grain in
    let i = c.lists.invariant in
    let pair = c.in_ok-from.ensures in
    let l : Lists = record { from = c.in_ok-from.field-0.from.items; to = c.in_ok-from.field-0.to.items } in
    let lists = i.read.0 in
    let labels : PackedLabels = record { from = c.into_row.result.items; to = c.into_row-in-lists.result.items } in
    let from : AreListed network.nodes grain l.from (map (unpacked grain) labels.from) =
    listing_listed network.nodes grain c.in_ok-from.field-0.from labels.from c.into_row.ensures.long c.into_row.ensures.each c.into_row.ensures.are_items pair.from in
    let to : AreListed network.nodes grain l.to (map (unpacked grain) labels.to) =
    listing_listed network.nodes grain c.in_ok-from.field-0.to labels.to c.into_row-in-lists.ensures.long c.into_row-in-lists.ensures.each c.into_row-in-lists.ensures.are_items pair.to in
    let long : AreLong network.nodes labels = record { from = c.into_row.ensures.long ∙ pair.from; to = c.into_row-in-lists.ensures.long ∙ pair.to } in
    let landmark = (slice_index_or c.args.landmarks.now c.lists.place (record { 0 = 0 })).0 in
    let read = read_push network back grain (take c.lists.place (numbers c.args.landmarks.now)) lists c.lists.table landmark l labels i.read.2 pair.evidence from to long in
    record {
      read = (
        lists ++ l ∷ [],
        taken_as (sym (lists_push lists l)) (taken_then i.read.1 pair.text),
        subst (λ (ns : List ℕ). AreRead network back grain ns (lists ++ l ∷ []) c.push.new.self) (sym (numbers_next c.args.landmarks.now c.lists.place (record { 0 = 0 }) c.lists-test.true))
            (subst (λ (t : List PackedLabels). AreRead network back grain (take c.lists.place (numbers c.args.landmarks.now) ++ landmark ∷ []) (lists ++ l ∷ []) t) (sym c.in_ok-push.ensures.ok) read),
      );
      bounded = omega (arith, i.bounded, pair.bounded);
      end = i.end;
    }
