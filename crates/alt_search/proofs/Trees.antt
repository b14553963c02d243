-- A walk is made from its last hop on.
use Rattle.std.proofs.Common.{◌≡◌, ℕ, ◌+◌, Option, Some, List, [], ◌∷◌, ◌++◌, reverse, IsSome, is_some, sym, subst, ap, ◌∙◌, zero, suc, inl, inr, arith}
use Rattle.walk_rules.proofs.Options.{some_or_none, some_of}
use Rattle.walk_rules.proofs.Walking.{walk_push}
use Rattle.std.proofs.lemmas.List.{reverse-append}
use Rattle.gh_base.specs.declared.edges.Hop.{Hop}
use Rattle.alt_search.specs.declared.reach.Reach.{Reach}
use Rattle.alt_search.specs.declared.reach.Step.{Step}
use Rattle.gh_base.specs.Networks.{Network}
use Rattle.walk_rules.specs.Walks.{IsWalk, weight_of, cost}
use Rattle.alt_search.specs.Progress.{reach_at, depth_of, IsTree, IsChain}

-- a tree is a chain from each of its nodes
pub chain_of : {network : Network} {bound : ℕ → Option ℕ} {start settled : ℕ} {reached : List (Option Reach)} {keys : List (Option ℕ)} → IsTree network bound start settled reached keys → IsChain reached
chain_of t node reach step r l = let e = t.branch node reach step r l in (e.before, e.settled.reach_is, e.depth)

-- one hop back
pub step_back : (reached : List (Option Reach)) (node : ℕ) (last : Option Step) (step : Step) → IsChain reached → IsSome (reach_at reached node) → ((reach : Reach) → reach_at reached node ≡ Some reach → last ≡ reach.last) → last ≡ Some step → IsSome (reach_at reached step.tail.0) × (depth_of (reach_at reached node) ≡ depth_of (reach_at reached step.tail.0) + 1)
step_back reached node last step c h l e =
    let here = some_of (reach_at reached node) h in
    let before = c node here.0 step here.1 (sym (l here.0 here.1) ∙ e) in
    let a : depth_of (reach_at reached step.tail.0) ≡ before.0.depth = ap depth_of before.1 in
    let b : depth_of (reach_at reached node) ≡ here.0.depth = ap depth_of here.1 in
    (ap is_some before.1, omega arith)

module _ {network : Network} {bound : ℕ → Option ℕ} {start settled : ℕ} {reached : List (Option Reach)} {keys : List (Option ℕ)} (t : IsTree network bound start settled reached keys) where
  pub back_walk : (node : ℕ) (reach : Reach) (step : Step) (hops more : List Hop) (target : ℕ) → reach_at reached node ≡ Some reach → reach.last ≡ Some step → more ≡ hops ++ step.hop ∷ [] → IsWalk network node (reverse hops) target → (before : Reach) → reach_at reached step.tail.0 ≡ Some before → IsWalk network step.tail.0 (reverse more) target × (before.weight + weight_of (reverse more) ≡ reach.weight + weight_of (reverse hops))
  back_walk node reach step hops more target r l m w before b =
      let e = t.branch node reach step r l in
      let same : before ≡ e.before = let x = e.settled.reach_is in cc in
      let weighs = ap (λ (r : Reach). r.weight) same in
      let turned : reverse more ≡ step.hop ∷ reverse hops = ap reverse m ∙ reverse-append hops (step.hop ∷ []) in
      let heavy : weight_of (reverse more) ≡ cost step.hop + weight_of (reverse hops) = ap weight_of turned in (
        subst (λ xs. IsWalk network step.tail.0 xs target) (sym turned) (e.hop, e.has_weight, subst (λ (n : ℕ). IsWalk network n (reverse hops) target) (sym e.head) w),
        let x = e.weight in omega arith,
      )

module _ {network : Network} {bound : ℕ → Option ℕ} {start settled : ℕ} {reached : List (Option Reach)} {keys : List (Option ℕ)} (t : IsTree network bound start settled reached keys) where
  pub walk_of : (depth node : ℕ) (reach : Reach) → reach_at reached node ≡ Some reach → reach.depth ≡ depth → (hops : List Hop) × IsWalk network start hops node × (weight_of hops ≡ reach.weight)
  walk_of zero node reach r d = elim (some_or_none reach.last) [
    | inl l ↦ absurd (let e = (t.branch node reach l.0 r l.1).depth in omega arith)
    | inr n ↦ let root = t.root node reach r n in ([], sym root.0, sym root.1)
  ]
  walk_of (suc depth) node reach r d = elim (some_or_none reach.last) [
    | inl l ↦
        let e = t.branch node reach l.0 r l.1 in
        let before = walk_of depth l.0.tail.0 e.before e.settled.reach_is (let x = e.depth in omega arith) in
        let on = walk_push network before.0 l.0.hop start l.0.tail.0 node before.1 e.hop e.has_weight e.head in
        (before.0 ++ l.0.hop ∷ [], on.0, let x = e.weight in let y = before.2 in let z = on.1 in omega arith)
    | inr n ↦ let root = t.root node reach r n in ([], sym root.0, sym root.1)
  ]
