-- Least weights cut at a limit, and where hops lead whose weights are rounded.
use Rattle.std.specs.Prelude.{◌≡◌, ℕ, ◌<◌, min, Option, Some, None, List, [], ◌∷◌, map, Contains}
use Rattle.std.proofs.Common.{refl, subst, zero, suc, arith}
use Rattle.gh_base.specs.declared.edges.Hop.{Hop}
use Rattle.gh_base.specs.Networks.{Network, LeadsToNodes}
use Rattle.walk_rules.specs.Distances.{rounded_hop, in_grains}

-- the lesser of a weight that is there and a limit
abbrev pub cut : ℕ → Option ℕ → Option ℕ
cut limit None = None
cut limit (Some weight) = Some (min weight limit)

-- what a mapped list contains
pub Contains-map_from : {A B : Type 0} (f : A → B) (xs : List A) (y : B) → Contains (map f xs) y → (x : A) × Contains xs x × (f x ≡ y)
Contains-map_from f [] y c = absurd (omega (arith, c.1))
Contains-map_from f (x ∷ xs) y (zero, l, e) = (x, (0, omega arith, refl), e)
Contains-map_from f (x ∷ xs) y (suc k, l, e) =
    let rest = Contains-map_from f xs y (k, omega arith, e) in
    (rest.0, (suc rest.1.0, omega (arith, rest.1.1), rest.1.2), rest.2)

pub grains_lead : (grain : ℕ) (base : Network) → LeadsToNodes base → LeadsToNodes (in_grains grain base)
grains_lead grain base r node hop c =
    let from = Contains-map_from (rounded_hop grain) (base.hops node) hop c in
    subst (λ (h : Hop). h.to.0 < base.nodes) from.2 (r node from.0 from.1)
