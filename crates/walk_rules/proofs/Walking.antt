-- What holds along a walk, and walks that go on.
use Rattle.std.proofs.Common.{◌≡◌, ℕ, ◌+◌, ◌<◌, ◌≤◌, Option, Some, List, [], ◌∷◌, ◌++◌, IsSome, Contains, sym, subst, ap, ◌∙◌, refl, arith}
use Rattle.gh_base.specs.declared.edges.Hop.{Hop}
use Rattle.gh_base.specs.Networks.{Network, LeadsToNodes}
use Rattle.walk_rules.specs.Walks.{hops_from, IsWalk, weight_of, cost}
use Rattle.walk_rules.specs.Potentials.{IsWithin, FallsAlong, RisesAlong, IsFeasible, flat}

pub falls_along_walk : (network : Network) (bound : ℕ → Option ℕ) → FallsAlong network bound → (hops : List Hop) (from to : ℕ) → IsWalk network from hops to → IsWithin (weight_of hops) (bound from) (bound to)
falls_along_walk network bound f [] from to w = λ y e. (y, ap bound w ∙ e, omega arith)
falls_along_walk network bound f (hop ∷ hops) from to w = λ y e.
    let rest = falls_along_walk network bound f hops hop.to.0 to w.2 y e in
    let here = f from hop w.0 w.1 rest.0 rest.1 in
    (here.0, here.1, omega arith)

pub rises_along_walk : (network : Network) (label : ℕ → Option ℕ) → RisesAlong network label → (hops : List Hop) (from to : ℕ) → IsWalk network from hops to → IsWithin (weight_of hops) (label to) (label from)
rises_along_walk network label r [] from to w = λ y e. (y, ap label (sym w) ∙ e, omega arith)
rises_along_walk network label r (hop ∷ hops) from to w = λ y e.
    let here = r from hop w.0 w.1 y e in
    let rest = rises_along_walk network label r hops hop.to.0 to w.2 here.0 here.1 in
    (rest.0, rest.1, omega arith)

pub walk_within : (network : Network) → LeadsToNodes network → (hops : List Hop) (from to : ℕ) → from < network.nodes → IsWalk network from hops to → to < network.nodes
walk_within network r [] from to l w = omega arith
walk_within network r (hop ∷ hops) from to l w = walk_within network r hops hop.to.0 to (r from hop w.0) w.2

pub flat_feasible : (network : Network) (target : ℕ) → IsFeasible network flat target
flat_feasible network target = record { at_target = refl; along = λ node hop c s y e. (0, refl, omega arith) }

-- a walk goes on by one hop
pub walk_push : (network : Network) (hops : List Hop) (hop : Hop) (a b c : ℕ) → IsWalk network a hops b → Contains (hops_from network b) hop → IsSome hop.weight → hop.to.0 ≡ c → IsWalk network a (hops ++ hop ∷ []) c × (weight_of (hops ++ hop ∷ []) ≡ weight_of hops + cost hop)
walk_push network [] hop a b c w h s t = ((subst (λ (n : ℕ). Contains (hops_from network n) hop) (sym w) h, s, t), omega arith)
walk_push network (x ∷ hops) hop a b c w h s t =
    let rest = walk_push network hops hop x.to.0 b c w.2 h s t in
    ((w.0, w.1, rest.0), omega arith)

-- a feasible bound is no more than the weight of a walk to the target
pub feasible_below : {network : Network} {bound : ℕ → Option ℕ} {target : ℕ} → IsFeasible network bound target → (hops : List Hop) (from : ℕ) → IsWalk network from hops target → (x : ℕ) × (bound from ≡ Some x) × (x ≤ weight_of hops)
feasible_below {network} {bound} {target} f hops from w = let b = falls_along_walk network bound f.along hops from target w 0 f.at_target in (b.0, b.1, omega arith)
