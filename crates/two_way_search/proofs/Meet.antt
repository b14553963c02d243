-- Both sides meet on each walk, or their least keys are no further than it.
use Rattle.std.proofs.Common.{◌≡◌, ℕ, ◌+◌, ◌-◌, ◌*◌, ◌^◌, ◌<◌, ◌≤◌, ◌⊎◌, Option, Some, None, IsSomeAnd, List, refl, ap, inl, inr, arith}
use Rattle.gh_base.specs.declared.edges.Hop.{Hop}
use Rattle.gh_base.specs.declared.edges.NodeId.{NodeId}
use Rattle.gh_base.specs.Networks.{Network}
use Rattle.walk_rules.specs.Walks.{IsWalk, weight_of}
use Rattle.search_queue.specs.Keys.{key_at}
use Rattle.two_way_search.specs.declared.meeting.Meeting.{Meeting}
use Rattle.two_way_search.specs.declared.side.Side.{Side}
use Rattle.two_way_search.specs.Opposed.{AreOpposed}
use Rattle.two_way_search.specs.Sides.{reduced_by, IsNext, IsSide}
use Rattle.two_way_search.specs.Meetings.{IsMet, MayGoOn}
use Rattle.two_way_search.proofs.Facing.{facing, reduced_falls, falls_twice_along, turned_walk, passed_below, reduced_both, reduced_is, left_there, small_left, small_passed}
use Rattle.two_way_search.proofs.Trees.{walk_of}
use Rattle.two_way_search.proofs.Frontier.{on_walk}

-- where something is open, the next is no further
pub next_least : (next : Option (NodeId × ℕ)) (open_keys keys : List (Option ℕ)) → IsNext next open_keys keys → (node key : ℕ) → key_at open_keys node ≡ Some key → (f : NodeId × ℕ) × (next ≡ Some f) × (f.1 ≤ key)
next_least None open_keys keys n node key k = absurd (let a = n.0 node in cc)
next_least (Some f) open_keys keys n node key k = (f, refl, n.1 node key k)

-- the best walk weighs no more than this
abbrev pub IsMetWithin : Option Meeting → ℕ → Type 0
IsMetWithin met limit = IsSomeAnd met (λ m. m.weight ≤ limit)

pub met_weaker : (met : Option Meeting) (x y : ℕ) → IsMetWithin met x → x ≤ y → IsMetWithin met y
met_weaker None x y m l = absurd m
met_weaker (Some m) x y h l = omega arith

module _ {out back : Network} {ahead behind : ℕ → Option ℕ} {start target near far : ℕ} {forward backward : Side} {met : Option Meeting} (o : AreOpposed out back ahead behind start target) (first : IsSide out ahead behind start near forward) (second : IsSide back behind ahead target far backward) (meets : IsMet forward.reached backward.reached met) where
  -- both sides have an open node, and the least keys of both are together no further than a walk
  pub record AreNear (weight : ℕ) : Type 0 where
    pub f : NodeId × ℕ
    pub f_is : forward.next ≡ Some f
    pub g : NodeId × ℕ
    pub g_is : backward.next ≡ Some g
    pub sum : f.1 + g.1 ≤ 2 * weight + 2 ^ 65

  pub met_or_near : (hops : List Hop) → IsWalk out start hops target → IsMetWithin met (weight_of hops) ⊎ AreNear (weight_of hops)
  met_or_near hops walk =
      let falls = reduced_falls o in
      let at_target = passed_below o hops target walk in
      let bound = reduced_is ahead behind target 0 at_target.0 o.left.at_target at_target.1 in
      elim (on_walk first.underway first.ordered falls hops target (0 + (2 ^ 64 - at_target.0)) walk bound) [
        | inr s ↦
            let last = second.underway.end_known in
            inl (met_weaker met (s.reach.weight + last.0.weight) (weight_of hops) (meets.best target s.reach last.0 s.settled.reach_is last.1) (omega (arith, s.before, last.2)))
        | inl p ↦
            let way = walk_of first.underway.tree p.node p.reach p.reach_is in
            let passed = passed_below o way.0 p.node way.1 in
            let left = left_there ahead behind p.node p.b p.bound_is in
            let asked = first.asked p.node p.reach p.reach_is in
            let small = small_left ahead behind p.node left.0 asked left.1 in
            let small' = small_passed ahead behind p.node passed.0 asked passed.1 in
            let here : p.b ≡ left.0 + (2 ^ 64 - passed.0) = reduced_both ahead behind p.node left.0 passed.0 p.b left.1 passed.1 p.bound_is in
            let there = reduced_is behind ahead p.node passed.0 left.0 passed.1 left.1 in
            let turned = turned_walk o p.rest p.node target p.walk in
            let next = next_least forward.next first.open_keys forward.queue first.next p.node (2 * p.reach.weight + p.b) p.key_is in
            elim (on_walk second.underway second.ordered (reduced_falls (facing o)) turned.0 p.node (passed.0 + (2 ^ 64 - left.0)) turned.1 there) [
              | inr s ↦ inl (met_weaker met (p.reach.weight + s.reach.weight) (weight_of hops) (meets.best p.node p.reach s.reach p.reach_is s.settled.reach_is) (omega (arith, s.before, p.before, turned.2)))
              | inl q ↦
                  let other = next_least backward.next second.open_keys backward.queue second.next q.node (2 * q.reach.weight + q.b) q.key_is in
                  let x = falls_twice_along back (reduced_by behind ahead) (reduced_falls (facing o)) q.rest q.node p.node q.walk (passed.0 + (2 ^ 64 - left.0)) there in
                  let same : x.0 ≡ q.b = let c = x.1 in let d = q.bound_is in cc in
                  inr (record { f = next.0; f_is = next.1; g = other.0; g_is = other.1; sum = omega (arith, next.2, other.2, x.2, q.before, p.before, turned.2) })
            ]
      ]

  -- where the search ended, the best walk is no heavier than any
  pub met_at_end : (MayGoOn forward.next backward.next met → ⊥) → (hops : List Hop) → IsWalk out start hops target → IsMetWithin met (weight_of hops)
  met_at_end ended hops walk = elim (met_or_near hops walk) [
    | inl m ↦ m
    | inr n ↦ within forward.next backward.next met n.f n.g n.f_is n.g_is n.sum ended
  ]
    where
      within : (one other : Option (NodeId × ℕ)) (met : Option Meeting) (f g : NodeId × ℕ) → one ≡ Some f → other ≡ Some g → f.1 + g.1 ≤ 2 * weight_of hops + 2 ^ 65 → (MayGoOn one other met → ⊥) → IsMetWithin met (weight_of hops)
      within None other met f g a b s e = absurd (cc)
      within (Some x) None met f g a b s e = absurd (cc)
      within (Some x) (Some y) None f g a b s e = absurd (e tt)
      within (Some x) (Some y) (Some m) f g a b s e =
          let p : x.1 ≡ f.1 = let same : x ≡ f = cc in ap (λ (z : NodeId × ℕ). z.1) same in
          let q : y.1 ≡ g.1 = let same : y ≡ g = cc in ap (λ (z : NodeId × ℕ). z.1) same in
          not_less (x.1 + y.1) (2 * m.weight + 2 ^ 65) e (omega arith)
        where
          not_less : (a b : ℕ) → (a < b → ⊥) → (b ≤ a → m.weight ≤ weight_of hops) → m.weight ≤ weight_of hops
          not_less a b n l = l (omega arith)

  -- where it goes on, the least keys are no further than any walk
  pub near_before_end : MayGoOn forward.next backward.next met → (hops : List Hop) → IsWalk out start hops target → AreNear (weight_of hops)
  near_before_end goes hops walk = elim (met_or_near hops walk) [
    | inr n ↦ n
    | inl m ↦ from_best forward.next backward.next met refl refl goes m
  ]
    where
      from_best : (one other : Option (NodeId × ℕ)) (met : Option Meeting) → forward.next ≡ one → backward.next ≡ other → MayGoOn one other met → IsMetWithin met (weight_of hops) → AreNear (weight_of hops)
      from_best None other met a b g m = absurd g
      from_best (Some x) None met a b g m = absurd g
      from_best (Some x) (Some y) None a b g m = absurd m
      from_best (Some x) (Some y) (Some m) a b g l = record { f = x; f_is = a; g = y; g_is = b; sum = omega arith }
