use Rattle.std.proofs.Common.{IsSome, Contains, refl, ◌∙◌, inl, inr, sym, subst, rules, arith}
use Rattle.gh_base.specs.declared.edges.Hop.{Hop}
use Rattle.landmark_choice.proofs.Joining.{joined, skip, next, cons_cases}
use Rattle.landmark_choice.proofs.parts.join_hops.Goals as goal

pub join-requires-clause-second : goal.join-requires-clause-second
join-requires-clause-second g c =
    let network = g.V.RoadView.network c.args.view.now in
    let in_list : Contains (g.V.RoadView.left c.hops.view) c.in-Some.hop = rw c.in-Some.ensures.hop (0, omega arith, refl) in
    omega (arith, c.hops.invariant.grouped.long, g.met.V.RoadView.leads c.args.view.now c.args.node.0 c.in-Some.hop (c.hops.invariant.grouped.later c.in-Some.hop in_list))

pub hops-preserved-then-is_some : goal.hops-preserved-then-is_some
hops-preserved-then-is_some g c =
    let network = g.V.RoadView.network c.args.view.now in
    let in_list : Contains (g.V.RoadView.left c.hops.view) c.in-Some.hop = rw c.in-Some.ensures.hop (0, omega arith, refl) in
    let of_node = c.hops.invariant.grouped.later c.in-Some.hop in_list in
    let some : IsSome c.in-Some.hop.weight = search rules in
    let to = g.met.V.RoadView.leads c.args.view.now c.args.node.0 c.in-Some.hop of_node in
    record {
      network = c.next_hop.ensures.network ∙ c.hops.invariant.network;
      starts = c.next_hop.ensures.starts ∙ c.hops.invariant.starts;
      grouped = joined network c.hops.above c.join.new.above c.args.node.0 c.in-Some.hop (g.V.RoadView.left c.next_hop.new.self) (rw c.in-Some.ensures.hop at c.hops.invariant.grouped) c.requires.node some to (omega arith) c.join.ensures.merged;
      some = λ t. (c.in-Some.hop, of_node, some);
      barred = λ f. absurd (cc);
    }

pub hops-preserved : goal.hops-preserved
hops-preserved g c =
    let network = g.V.RoadView.network c.args.view.now in
    let barred : IsSome c.in-Some.hop.weight → ⊥ = λ some. let e = c.is_some.ensures in let f = c.if-is_some.false in cc in
    record {
      network = c.next_hop.ensures.network ∙ c.hops.invariant.network;
      starts = c.next_hop.ensures.starts ∙ c.hops.invariant.starts;
      grouped = skip network c.hops.above c.args.node.0 c.in-Some.hop (g.V.RoadView.left c.next_hop.new.self) (rw c.in-Some.ensures.hop at c.hops.invariant.grouped) barred;
      some = c.hops.invariant.some;
      barred = λ f other of s. elim (cons_cases c.in-Some.hop (g.V.RoadView.left c.next_hop.new.self) other (rw c.in-Some.ensures.hop at (c.hops.invariant.barred f other of s))) [
        | inl e ↦ absurd (barred (subst (λ (h : Hop). IsSome h.weight) (sym e) s))
        | inr later ↦ later
      ];
    }

pub returns-clause-grouped : goal.returns-clause-grouped
returns-clause-grouped g c = next (g.V.RoadView.network c.args.view.now) c.hops.above c.args.node.0 (rw c.in_default.ensures.end at c.hops.invariant.grouped)
