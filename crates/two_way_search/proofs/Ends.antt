-- What a search from both ends has shown when it ends.
use Rattle.std.proofs.Common.{◌≡◌, ℕ, ◌+◌, ◌*◌, ◌^◌, ◌<◌, ◌≤◌, ◌⊎◌, Option, Some, None, List, [], ◌∷◌, ◌++◌, refl, sym, subst, ap, inl, inr, arith}
use Rattle.gh_base.specs.declared.edges.Hop.{Hop}
use Rattle.gh_base.specs.declared.edges.NodeId.{NodeId}
use Rattle.gh_base.specs.Networks.{Network}
use Rattle.walk_rules.specs.Walks.{IsWalk, weight_of, IsAtMostEachWalk, NoWalk}
use Rattle.walk_rules.proofs.Walking.{feasible_below}
use Rattle.alt_search.specs.declared.reach.Reach.{Reach}
use Rattle.alt_search.specs.Progress.{reach_at, is_settled}
use Rattle.two_way_search.specs.declared.meeting.Meeting.{Meeting}
use Rattle.two_way_search.specs.declared.side.Side.{Side}
use Rattle.two_way_search.specs.Keys.{IsKey, AddUpTo, StartsOnBothSides}
use Rattle.two_way_search.specs.Opposed.{AreOpposed}
use Rattle.two_way_search.specs.Sides.{reduced, reduced_by}
use Rattle.two_way_search.specs.Meetings.{IsFound, MayGoOn, AreUnderway}
use Rattle.two_way_search.proofs.Facing.{facing, turned_walk, passed_below}
use Rattle.two_way_search.proofs.Trees.{walk_of}
use Rattle.two_way_search.proofs.Meet.{IsMetWithin, met_at_end}
use Rattle.two_way_search.proofs.Keyed.{key_below, next_over, limit_of, starts_on_side}

-- two walks that join
walk_on : (network : Network) (hops more : List Hop) (a b c : ℕ) → IsWalk network a hops b → IsWalk network b more c → IsWalk network a (hops ++ more) c × (weight_of (hops ++ more) ≡ weight_of hops + weight_of more)
walk_on network [] more a b c w v = (subst (λ (n : ℕ). IsWalk network n more c) (sym w) v, omega arith)
walk_on network (hop ∷ hops) more a b c w v =
    let rest = walk_on network hops more hop.to.0 b c w.2 v in
    ((w.0, w.1, rest.0), omega (arith, rest.1))

-- both sides have an open node, so the best walk is no further than their keys
ended_some : (one other : Option (NodeId × ℕ)) (met : Option Meeting) (f g : NodeId × ℕ) → one ≡ Some f → other ≡ Some g → (MayGoOn one other met → ⊥) → (m : Meeting) × (met ≡ Some m) × (2 * m.weight + 2 ^ 65 ≤ f.1 + g.1)
ended_some None other met f g a b e = absurd (cc)
ended_some (Some x) None met f g a b e = absurd (cc)
ended_some (Some x) (Some y) None f g a b e = absurd (e tt)
ended_some (Some x) (Some y) (Some m) f g a b e =
    let p : x.1 ≡ f.1 = let same : x ≡ f = cc in ap (λ (z : NodeId × ℕ). z.1) same in
    let q : y.1 ≡ g.1 = let same : y ≡ g = cc in ap (λ (z : NodeId × ℕ). z.1) same in
    (m, refl, not_less (x.1 + y.1) (2 * m.weight + 2 ^ 65) e (omega arith))
  where
    not_less : (a b : ℕ) → (a < b → ⊥) → (b ≤ a → 2 * m.weight + 2 ^ 65 ≤ f.1 + g.1) → 2 * m.weight + 2 ^ 65 ≤ f.1 + g.1
    not_less a b n l = l (omega arith)

module _ {out back : Network} {ahead behind : ℕ → Option ℕ} {start target : ℕ} {forward backward : Side} {met : Option Meeting} (o : AreOpposed out back ahead behind start target) (u : AreUnderway out back ahead behind start target forward backward met) where
  -- the walk over the node where both sides meet
  pub walk_through : (m : Meeting) → met ≡ Some m → (hops : List Hop) × IsWalk out start hops target × (weight_of hops ≤ m.weight)
  walk_through m e =
      let f = subst (λ (o : Option Meeting). IsFound forward.reached backward.reached o) e u.meets.found in
      let way = walk_of u.first.underway.tree m.node.0 f.0 f.2 in
      let other = walk_of u.second.underway.tree m.node.0 f.1 f.3 in
      let back_way = turned_walk (facing o) other.0 target m.node.0 other.1 in
      let whole = walk_on out way.0 back_way.0 start m.node.0 target way.1 back_way.1 in
      (way.0 ++ back_way.0, whole.0, omega (arith, whole.1, way.2, other.2, back_way.2, f.4))

  module _ (ended : MayGoOn forward.next backward.next met → ⊥) where
    pub none_met : met ≡ None → NoWalk out start target
    none_met e hops walk = none met e (met_at_end o u.first u.second u.meets ended hops walk)
      where
        none : (met : Option Meeting) → met ≡ None → IsMetWithin met (weight_of hops) → ⊥
        none None e m = m
        none (Some best) e m = cc

    pub met_least : (m : Meeting) → met ≡ Some m → IsAtMostEachWalk out start target m.weight
    met_least m e hops walk = subst (λ (o : Option Meeting). IsMetWithin o (weight_of hops)) e (met_at_end o u.first u.second u.meets ended hops walk)

    -- the walks of both sides to where they meet weigh what is told
    pub met_at : (m : Meeting) → met ≡ Some m → (here : Reach) × (there : Reach) × (reach_at forward.reached m.node.0 ≡ Some here) × (reach_at backward.reached m.node.0 ≡ Some there) × (m.weight ≡ here.weight + there.weight)
    met_at m e =
        let f = subst (λ (o : Option Meeting). IsFound forward.reached backward.reached o) e u.meets.found in
        let best = subst (λ (o : Option Meeting). IsMetWithin o (f.0.weight + f.1.weight)) e (u.meets.best m.node.0 f.0 f.1 f.2 f.3) in
        (f.0, f.1, f.2, f.3, omega (arith, best, f.4))

    module _ (first second : ℕ) (first_is : ahead start ≡ Some first) (second_is : behind target ≡ Some second) where
      pub starts_on_both : StartsOnBothSides out back ahead behind start target forward.settled backward.settled
      starts_on_both = record {
        first = is_settled forward.reached u.first.open_keys;
        second = is_settled backward.reached u.second.open_keys;
        limit = limit_of o u.first first first_is forward.next;
        other_limit = limit_of (facing o) u.second second second_is backward.next;
        from_start = starts_on_side o u.first first first_is;
        from_target = starts_on_side (facing o) u.second second second_is;
        far = λ total k. far_of total k forward.next backward.next refl refl;
        all = λ none. all_of none forward.next backward.next refl refl;
        near = λ total p q key other k tp tq kp kq.
            let t = total_is total k in
            omega (arith, key_below o u.first first first_is p key tp kp, key_below (facing o) u.second second second_is q other tq kq, u.within k.distance_is.hops k.distance_is.is_least.walk, k.distance_is.weight_is, t);
      }
        where
          total_is : (total : ℕ) (k : IsKey out ahead behind start target total) → total + first + second ≡ 2 * k.distance
          total_is total k =
              let a : k.left ≡ 0 = let x = k.left_is in let y = o.left.at_target in cc in
              let b : k.passed ≡ second = let x = k.passed_is in cc in
              let c : k.end_left ≡ first = let x = k.end_left_is in cc in
              let d : k.end_passed ≡ 0 = let x = k.end_passed_is in let y = o.passed.at_target in cc in
              omega (arith, k.key_is)

          far_of : (total : ℕ) → IsKey out ahead behind start target total → (one other : Option (NodeId × ℕ)) → forward.next ≡ one → backward.next ≡ other → AddUpTo total (limit_of o u.first first first_is one) (limit_of (facing o) u.second second second_is other)
          far_of total k None other a b = tt
          far_of total k (Some f) None a b = tt
          far_of total k (Some f) (Some g) a b =
              let m = ended_some forward.next backward.next met f g a b ended in
              let walk = walk_through m.0 m.1 in
              let least = k.distance_is.is_least.least walk.0 walk.1 in
              let x = next_over o u.first first first_is f a in
              let y = next_over (facing o) u.second second second_is g b in
              omega (arith, m.2, walk.2, least, k.distance_is.weight_is, x.1, y.1, total_is total k)

          all_of : NoWalk out start target → (one other : Option (NodeId × ℕ)) → forward.next ≡ one → backward.next ≡ other → (limit_of o u.first first first_is one ≡ None) ⊎ (limit_of (facing o) u.second second second_is other ≡ None)
          all_of none None other a b = inl refl
          all_of none (Some f) None a b = inr refl
          all_of none (Some f) (Some g) a b =
              let m = ended_some forward.next backward.next met f g a b ended in
              let walk = walk_through m.0 m.1 in
              absurd (none walk.0 walk.1)

no_left : (left passed : Option ℕ) → reduced left passed ≡ None → left ≡ None
no_left None passed e = refl
no_left (Some x) None e = absurd (cc)
no_left (Some x) (Some y) e = absurd (cc)

-- where there is no bound, nothing is left
pub left_missing : (ahead behind : ℕ → Option ℕ) (node : ℕ) → reduced_by ahead behind node ≡ None → ahead node ≡ None
left_missing ahead behind node e = no_left (ahead node) (behind node) e

module _ {out back : Network} {ahead behind : ℕ → Option ℕ} {start target : ℕ} (o : AreOpposed out back ahead behind start target) where
  pub none_ahead : ahead start ≡ None → NoWalk out start target
  none_ahead e hops walk = let b = feasible_below o.left hops start walk in let x = b.1 in cc

  pub none_behind : behind target ≡ None → NoWalk out start target
  none_behind e hops walk = let b = passed_below o hops target walk in let x = b.1 in cc
