-- Hops that are passed over, since a walk is known to their heads that is no heavier than the settled node's.
use Rattle.std.proofs.Common.{◌≡◌, ℕ, ◌≤◌, true, Option, Some, List, [], ◌∷◌, sym, ap, ◌∙◌, inl, inr, arith}
use Rattle.std.proofs.lemmas.Bool.{cases_Bool, leb-true}
use Rattle.gh_base.specs.declared.edges.Hop.{Hop}
use Rattle.gh_base.specs.declared.edges.NodeId.{NodeId}
use Rattle.gh_base.specs.Networks.{Network, wanted_from}
use Rattle.walk_rules.proofs.Options.{some_or_none}
use Rattle.alt_search.specs.declared.reach.Reach.{Reach}
use Rattle.alt_search.specs.Progress.{reach_at, IsSettled, is_within, is_known_within}
use Rattle.two_way_search.specs.Sides.{IsOrdered}
use Rattle.two_way_search.proofs.Relax.{leave_relaxed}

-- the walk that is known
known_within : (reached : List (Option Reach)) (weight node : ℕ) → is_known_within reached weight node ≡ true → (reach : Reach) × (reach_at reached node ≡ Some reach) × (reach.weight ≤ weight)
known_within reached weight node t = elim (some_or_none (reach_at reached node)) [
  | inl s ↦ (s.0, s.1, leb-true s.0.weight weight (ap (is_within weight) (sym s.1) ∙ t))
  | inr n ↦ absurd (let e = ap (is_within weight) n in cc)
]

-- hops that are passed over are left no more
pub leave_passed : {network : Network} {bound : ℕ → Option ℕ} {least : ℕ} {tail : NodeId} {from : Reach} {reached : List (Option Reach)} {keys : List (Option ℕ)} → IsSettled reached keys tail.0 from → (left : List Hop) → IsOrdered network bound least reached keys tail.0 left → IsOrdered network bound least reached keys tail.0 (wanted_from (is_known_within reached from.weight) left)
leave_passed from_settled [] o = o
leave_passed {from = from} {reached = reached} from_settled (hop ∷ left) o = elim (cases_Bool (is_known_within reached from.weight hop.to.0)) [
  | inl t ↦
      let known = known_within reached from.weight hop.to.0 t in
      rw t (leave_passed from_settled left (leave_relaxed from_settled (λ weighs b b_is. (known.0, known.1, omega (arith, known.2))) left o))
  | inr f ↦ rw f o
]
