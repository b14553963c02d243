-- A walk that goes on by the turned hops of the other side's tree.
use Rattle.std.proofs.Common.{◌≡◌, ℕ, ◌+◌, Option, Some, None, List, [], ◌∷◌, ◌++◌, Contains, length, refl, sym, subst, ap, ◌∙◌, arith}
use Rattle.std.proofs.lemmas.List.{length-append}
use Rattle.gh_base.specs.declared.edges.Hop.{Hop}
use Rattle.gh_base.specs.declared.edges.NodeId.{NodeId}
use Rattle.gh_base.specs.declared.edges.DirEdge.{DirEdge}
use Rattle.gh_base.specs.Networks.{Network}
use Rattle.walk_rules.specs.Walks.{IsWalk, weight_of, hops_from}
use Rattle.walk_rules.proofs.Walking.{walk_push}
use Rattle.alt_search.specs.declared.reach.Reach.{Reach}
use Rattle.alt_search.specs.declared.reach.Step.{Step}
use Rattle.alt_search.specs.Progress.{reach_at}
use Rattle.walk_rules.specs.Turned.{IsTurned}
use Rattle.two_way_search.specs.Sides.{IsTree}

-- the last hop of a walk, turned round
abbrev pub turned_hop : Step → Hop
turned_hop step = record { to = step.tail; by = step.hop.by; weight = step.hop.weight }

same_node : (one other : NodeId) → one.0 ≡ other.0 → one ≡ other
same_node one other e = ap (λ n. record { 0 = n }) e

same_hop : (one other : Hop) → one.to ≡ other.to → one.by ≡ other.by → one.weight ≡ other.weight → one ≡ other
same_hop one other a b c =
    ap (λ (x : NodeId). record { to = x; by = one.by; weight = one.weight }) a ∙ (ap (λ (x : DirEdge). record { to = other.to; by = x; weight = one.weight }) b ∙ ap (λ (x : Option ℕ). record { to = other.to; by = other.by; weight = x }) c)

module _ {out back : Network} {other : ℕ → Option ℕ} {target count : ℕ} {reached : List (Option Reach)} {rest : List (Option ℕ)} (turned : IsTurned out back) (t : IsTree back other target count reached rest) where
  pub join_step : (node : ℕ) (here at : Reach) (step : Step) → reach_at reached node ≡ Some here → here.last ≡ Some step → reach_at reached step.tail.0 ≡ Some at → (hops more : List Hop) → more ≡ hops ++ turned_hop step ∷ [] → (start sum count : ℕ) → IsWalk out start hops node → weight_of hops + here.weight ≡ sum → length hops + here.depth ≡ count
      → IsWalk out start more step.tail.0 × (weight_of more + at.weight ≡ sum) × (length more + at.depth ≡ count)
  join_step node here at step r l a hops more m start sum count walk weighs long =
      let e = t.branch node here step r l in
      let back_hop = turned.here step.tail.0 step.hop e.hop e.has_weight in
      let same : back_hop.0 ≡ turned_hop step = same_hop back_hop.0 (turned_hop step) (same_node back_hop.0.to step.tail back_hop.2) back_hop.3 back_hop.4 in
      let contains : Contains (hops_from out node) (turned_hop step) = subst (λ (h : Hop). Contains (hops_from out node) h) same (subst (λ (n : ℕ). Contains (hops_from out n) back_hop.0) e.head back_hop.1) in
      let on = walk_push out hops (turned_hop step) start node step.tail.0 walk contains e.has_weight refl in
      let before : e.before ≡ at = let x = e.settled.reach_is in cc in
      let light : e.before.weight ≡ at.weight = ap (λ (r : Reach). r.weight) before in
      let heavy : weight_of more ≡ weight_of (hops ++ turned_hop step ∷ []) = ap weight_of m in
      let longer : length more ≡ length hops + 1 = ap length m ∙ simp length-append in
      let deep : e.before.depth ≡ at.depth = ap (λ (r : Reach). r.depth) before in
      (subst (λ xs. IsWalk out start xs step.tail.0) (sym m) on.0, let w = on.1 in let x = e.weight in omega arith, let d = e.depth in omega arith)

  pub join_end : (node : ℕ) (here : Reach) → reach_at reached node ≡ Some here → here.last ≡ None → (hops : List Hop) (start sum count : ℕ) → IsWalk out start hops node → weight_of hops + here.weight ≡ sum → length hops + here.depth ≡ count
      → IsWalk out start hops target × (weight_of hops ≡ sum) × (length hops ≡ count)
  join_end node here r l hops start sum count walk weighs long =
      let root = t.root node here r l in
      (subst (λ (n : ℕ). IsWalk out start hops n) root.0 walk, let x = root.1 in omega arith, let d = root.2 in omega arith)
