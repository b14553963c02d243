use Rattle.std.proofs.Common.{◌≡◌, ℕ, ◌+◌, ◌<◌, List, length, sym, subst, ap, ◌∙◌, inl, inr, arith}
use Rattle.std.proofs.lemmas.Bool.{cases_lt}
use Rattle.std.proofs.lemmas.List.{take_at}
use Rattle.std.proofs.lemmas.Result.{IfOk-weaker}
use Rattle.std.specs.Prelude.{drop}
use Rattle.landmark_choice.specs.Grouping.{Leads, AreGrouped}
use Rattle.landmark_choice.specs.Parts.{IsBarred}
use Rattle.landmark_choice.proofs.Largest.{none_then}
use Rattle.landmark_choice.proofs.parts.largest_part.Goals as goal
use Rattle.landmark_choice.proofs.parts.largest_part.Goals.{then-join_hops, else-join_hops}

pub loop-node-preserved : goal.loop-node-preserved
loop-node-preserved g c =
    let network = g.V.RoadView.network c.args.out.now in
    let i = c.loop-node.invariant in
    let kept : length c.join_hops.new.above ≡ length c.loop-node.above.items = omega (arith, c.join_hops.auto.above, ap length c.deref_mut.ensures.value) in
    let whole = take_at c.join_hops.new.above (drop (length c.join_hops.new.above) c.loop-node.above.items) c.loop-node.above.len (omega (arith, c.loop-node.above.ok.0)) in
    let node : c.loop-node.node < network.nodes = omega (arith, c.loop-node-test.true, c.node_count-count.ensures) in
    rw whole (record {
      network = c.join_hops.ensures.network ∙ i.network;
      starts = c.join_hops.ensures.starts ∙ ap (λ (n : ℕ). n + 1) i.starts;
      grouped = rw i.network at c.join_hops.ensures.grouped;
      barred = λ t one below. elim c.if-join_hops.branch [
        | then-join_hops w ↦ absurd (let e = w.is_barred-is in cc)
        | else-join_hops w ↦ elim (cases_lt one c.loop-node.node) [
          | inl less ↦ i.barred (sym w.is_barred-is ∙ t) one less
          | inr more ↦ let same : c.loop-node.node ≡ one = omega arith in subst (λ (n : ℕ). IsBarred network n) same (rw i.network at (c.join_hops.ensures.barred w.if-join_hops.false))
        ]
      ];
      some = λ f. elim c.if-join_hops.branch [
        | then-join_hops w ↦ (c.loop-node.node, node, rw i.network at (c.join_hops.ensures.open w.if-join_hops.true))
        | else-join_hops w ↦ i.some (sym w.is_barred-is ∙ f)
      ];
    })

pub returns-then-is_barred-clause-none : goal.returns-then-is_barred-clause-none
returns-then-is_barred-clause-none g c = λ node l. c.loop-node.invariant.barred c.if-is_barred.true node (omega (arith, c.loop-node-test.false, c.node_count-count.ensures))

pub returns-clause-largest : goal.returns-clause-largest
returns-clause-largest g c =
    let network = g.V.RoadView.network c.args.out.now in
    let end : c.loop-node.node ≡ network.nodes = omega (arith, c.loop-node-test.false, c.node_count-count.ensures, c.loop-node.auto.node-end) in
    let grouped = subst (λ (n : ℕ). AreGrouped network c.loop-node.above.items n (network.hops n)) end c.loop-node.invariant.grouped in
    c.fullest.ensures.largest network (network.hops network.nodes) (subst (λ (xs : List ℕ). AreGrouped network xs network.nodes (network.hops network.nodes)) (sym c.deref_mut-2.ensures.value) grouped)

pub returns-clause-none : goal.returns-clause-none
returns-clause-none g c =
    let network = g.V.RoadView.network c.args.out.now in
    let grouped = c.loop-node.invariant.grouped in
    IfOk-weaker c.fullest.result _ _
    (λ part none. none_then part _ _ (λ e node l. absurd (omega (arith, e, l, grouped.long, ap length c.deref_mut-2.ensures.value))) none)
    (c.fullest.ensures.none grouped.leader (subst (λ (xs : List ℕ). Leads xs grouped.leader) (sym c.deref_mut-2.ensures.value) grouped.leads))
