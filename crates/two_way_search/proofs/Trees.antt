-- The walks of a side's tree.
use Rattle.std.proofs.Common.{◌≡◌, ℕ, ◌-◌, unwrap_or, Option, Some, None, List, refl, ap, arith}
use Rattle.gh_base.specs.declared.edges.Hop.{Hop}
use Rattle.gh_base.specs.Networks.{Network}
use Rattle.walk_rules.specs.Walks.{IsWalk, weight_of}
use Rattle.search_queue.specs.Keys.{key_at}
use Rattle.alt_search.specs.declared.reach.Reach.{Reach}
use Rattle.alt_search.specs.Progress.{reach_at, IsChain}
use Rattle.alt_search.specs.Progress.{IsTree as IsPlainTree}
use Rattle.alt_search.proofs.Trees as plain
use Rattle.two_way_search.specs.Sides.{IsTree}

abbrev pub weighs : Option Reach → ℕ
weighs None = 0
weighs (Some reach) = reach.weight

-- what a key is over its walk's weight
abbrev pub spare : List (Option Reach) → List (Option ℕ) → ℕ → Option ℕ
spare reached keys node = Some (unwrap_or (key_at keys node) 0 - weighs (reach_at reached node))

module _ {network : Network} {bound : ℕ → Option ℕ} {end settled : ℕ} {reached : List (Option Reach)} {keys : List (Option ℕ)} (t : IsTree network bound end settled reached keys) where
  -- it is a tree whose keys are of single weights, with what is over as bounds
  pub as_plain : IsPlainTree network (spare reached keys) end settled reached keys
  as_plain = record {
    root = t.root;
    branch = t.branch;
    small = t.small;
    bounded = λ node reach r. refl;
    queued = λ node key k.
        let q = t.queued node key k in
        let a : unwrap_or (key_at keys node) 0 ≡ key = ap (λ (o : Option ℕ). unwrap_or o 0) k in
        let b : weighs (reach_at reached node) ≡ q.0.weight = ap weighs q.2 in
        (q.0, unwrap_or (key_at keys node) 0 - weighs (reach_at reached node), q.2, refl, omega (arith, q.4));
  }

  pub chain_of : IsChain reached
  chain_of = plain.chain_of as_plain

  pub walk_of : (node : ℕ) (reach : Reach) → reach_at reached node ≡ Some reach → (hops : List Hop) × IsWalk network end hops node × (weight_of hops ≡ reach.weight)
  walk_of node reach r = plain.walk_of as_plain reach.depth node reach r refl
