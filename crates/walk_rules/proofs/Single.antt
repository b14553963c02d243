-- Least weights, distances and labels are determined.
use Rattle.std.proofs.Common.{◌≡◌, ℕ, Option, Some, None, List, refl, ap, arith}
use Rattle.gh_base.specs.declared.edges.Hop.{Hop}
use Rattle.gh_base.specs.Networks.{Network}
use Rattle.walk_rules.specs.Walks.{weight_of, IsLeast, IsLeastWeight}
use Rattle.walk_rules.specs.Distances.{in_grains, IsReach, IsDistance, IsLabel}

pub least_same : (network : Network) (from to : ℕ) (first second : List Hop) → IsLeast network from first to → IsLeast network from second to → weight_of first ≡ weight_of second
least_same network from to first second a b = omega (arith, a.least second b.walk, b.least first a.walk)

pub one_least_weight : (network : Network) (from to first second : ℕ) → IsLeastWeight network from to first → IsLeastWeight network from to second → first ≡ second
one_least_weight network from to first second a b = omega (arith, least_same network from to a.hops b.hops a.is_least b.is_least, a.weight_is, b.weight_is)

pub one_reach : (network : Network) (from to : ℕ) (first second : Option ℕ) → IsReach network from to first → IsReach network from to second → first ≡ second
one_reach network from to None None a b = refl
one_reach network from to None (Some y) a b = absurd (a b.hops b.is_least.walk)
one_reach network from to (Some x) None a b = absurd (b a.hops a.is_least.walk)
one_reach network from to (Some x) (Some y) a b = ap Some (one_least_weight network from to x y a b)

pub one_distance : (grain : ℕ) (network : Network) (from to : ℕ) (first second : Option ℕ) → IsDistance grain network from to first → IsDistance grain network from to second → first ≡ second
one_distance grain network from to first second a b = one_reach (in_grains grain network) from to first second a b

pub one_label : (network : Network) (limit from to : ℕ) (first second : Option ℕ) → IsLabel network limit from to first → IsLabel network limit from to second → first ≡ second
one_label network limit from to None None a b = refl
one_label network limit from to None (Some y) a b = absurd (a b.hops b.walk)
one_label network limit from to (Some x) None a b = absurd (b a.hops a.walk)
one_label network limit from to (Some x) (Some y) a b = ap Some (omega (arith, a.least b.hops b.walk, b.least a.hops a.walk, a.weight, b.weight))
