-- Both sides between two turns.
use Rattle.std.proofs.Common.{◌≡◌, ◌≢◌, ℕ, ◌+◌, ◌-◌, ◌*◌, ◌^◌, ◌<◌, ◌≤◌, Option, Some, None, IfSome, List, replicate, refl, sym, ap, ◌∙◌, inl, inr, arith}
use Rattle.std.specs.Prelude.{slice_set}
use Rattle.gh_base.specs.declared.edges.Hop.{Hop}
use Rattle.gh_base.specs.declared.edges.NodeId.{NodeId}
use Rattle.gh_base.specs.Networks.{Network}
use Rattle.walk_rules.specs.Walks.{IsWalk, weight_of}
use Rattle.alt_search.specs.declared.reach.Reach.{Reach}
use Rattle.alt_search.specs.Progress.{reach_at}
use Rattle.two_way_search.specs.declared.meeting.Meeting.{Meeting}
use Rattle.two_way_search.specs.declared.side.Side.{Side}
use Rattle.two_way_search.specs.Opposed.{AreOpposed}
use Rattle.two_way_search.specs.Sides.{reduced, reduced_by, AreSmall, IsNext, IsSide}
use Rattle.two_way_search.specs.Meetings.{IsFound, IsMet, MayGoOn, AreUnderway}
use Rattle.two_way_search.proofs.Going.{next_known, light_in, asked_at}
use Rattle.two_way_search.proofs.Begin.{begin_at, nowhere, only_begun}
use Rattle.two_way_search.proofs.Meet.{met_weaker, near_before_end}

-- the sides may change places
pub swap_met : (reached other : List (Option Reach)) (met : Option Meeting) → IsMet reached other met → IsMet other reached met
swap_met reached other met m = record {
  best = λ node here there h t. met_weaker met (there.weight + here.weight) (here.weight + there.weight) (m.best node there here t h) (omega arith);
  found = swapped met m.found;
}
  where
    swapped : (met : Option Meeting) → IsFound reached other met → IsFound other reached met
    swapped None f = tt
    swapped (Some m) f = (f.1, f.0, f.3, f.2, omega (arith, f.4))

first_open : (one other : Option (NodeId × ℕ)) (met : Option Meeting) → MayGoOn one other met → (f : NodeId × ℕ) × (one ≡ Some f)
first_open None other met g = absurd g
first_open (Some f) other met g = (f, refl)

second_open : (one other : Option (NodeId × ℕ)) (met : Option Meeting) → MayGoOn one other met → (f : NodeId × ℕ) × (other ≡ Some f)
second_open None other met g = absurd g
second_open (Some f) None met g = absurd g
second_open (Some f) (Some h) met g = (h, refl)

module _ {out back : Network} {ahead behind : ℕ → Option ℕ} {start target : ℕ} {forward backward : Side} {met : Option Meeting} (o : AreOpposed out back ahead behind start target) (u : AreUnderway out back ahead behind start target forward backward met) (goes : MayGoOn forward.next backward.next met) where
  -- the keys that are next are together no further than any walk, and no less than the last ones
  next_near : (f g : NodeId × ℕ) → forward.next ≡ Some f → backward.next ≡ Some g → (hops : List Hop) → IsWalk out start hops target → (f.1 + g.1 ≤ 2 * weight_of hops + 2 ^ 65) × (u.near ≤ f.1) × (u.far ≤ g.1)
  next_near f g e h hops walk =
      let n = near_before_end o u.first u.second u.meets goes hops walk in
      let same : n.f ≡ f = let a = n.f_is in cc in
      let same' : n.g ≡ g = let a = n.g_is in cc in
      let p = ap (λ (x : NodeId × ℕ). x.1) same in
      let q = ap (λ (x : NodeId × ℕ). x.1) same' in
      (omega (arith, n.sum), u.first.ordered.above f.0.0 f.1 (next_known u.first f e).5, u.second.ordered.above g.0.0 g.1 (next_known u.second g h).5)

  pub first_turn : (forward' : Side) (met' : Option Meeting) → forward.settled ≡ backward.settled → forward'.settled ≡ forward.settled + 1 → ((end least : ℕ) (next : NodeId × ℕ) → forward.next ≡ Some next → IsSide out ahead behind end least forward → IsSide out ahead behind end next.1 forward') → IsMet forward'.reached backward.reached met' → AreUnderway out back ahead behind start target forward' backward met'
  first_turn forward' met' e s side m =
      let f = first_open forward.next backward.next met goes in
      let g = second_open forward.next backward.next met goes in
      record {
        near = f.0.1;
        far = u.far;
        first = side start u.near f.0 f.1 u.first;
        second = u.second;
        meets = m;
        within = λ hops walk. let n = next_near f.0 g.0 f.1 g.1 hops walk in omega (arith, n.0, n.2);
        turns = inr (omega arith);
      }

  pub second_turn : (backward' : Side) (met' : Option Meeting) → (forward.settled ≡ backward.settled → ⊥) → backward'.settled ≡ backward.settled + 1 → ((end least : ℕ) (next : NodeId × ℕ) → backward.next ≡ Some next → IsSide back behind ahead end least backward → IsSide back behind ahead end next.1 backward') → IsMet backward'.reached forward.reached met' → AreUnderway out back ahead behind start target forward backward' met'
  second_turn backward' met' ne s side m =
      let f = first_open forward.next backward.next met goes in
      let g = second_open forward.next backward.next met goes in
      record {
        near = u.near;
        far = g.0.1;
        first = u.first;
        second = side target u.far g.0 g.1 u.second;
        meets = swap_met backward'.reached forward.reached met' m;
        within = λ hops walk. let n = next_near f.0 g.0 f.1 g.1 hops walk in omega (arith, n.0, n.1);
        turns = elim u.turns [
          | inl e ↦ absurd (ne e)
          | inr e ↦ inl (omega arith)
        ];
      }

few_bound : (left passed : Option ℕ) (b : ℕ) → IfSome left (λ x. x < 2 ^ 64) → reduced left passed ≡ Some b → b ≤ 2 ^ 65
few_bound None passed b l e = absurd (cc)
few_bound (Some x) None b l e = let s : x ≡ b = cc in omega arith
few_bound (Some x) (Some y) b l e = let s : x + (2 ^ 64 - y) ≡ b = cc in omega arith

-- keys fit 128 bits
pub next_light : {network : Network} {ahead behind : ℕ → Option ℕ} {end least : ℕ} {side : Side} → IsSide network ahead behind end least side → network.nodes < 2 ^ 32 → IfSome side.next (λ next. next.1 < 2 ^ 126)
next_light {network} {ahead} {behind} {end} {least} {side} s few = light side.next refl
  where
    light : (next : Option (NodeId × ℕ)) → side.next ≡ next → IfSome next (λ f. f.1 < 2 ^ 126)
    light None e = tt
    light (Some f) e =
        let n = next_known s f e in
        let w = light_in s.underway few f.0.0 n.0 n.2 in
        let b = few_bound (ahead f.0.0) (behind f.0.0) n.1 (s.asked f.0.0 n.0 n.2).left n.3 in
        omega (arith, n.4)

-- and so does the best walk
pub met_light : {out back : Network} {ahead behind : ℕ → Option ℕ} {start target : ℕ} {forward backward : Side} {met : Option Meeting} → AreUnderway out back ahead behind start target forward backward met → out.nodes < 2 ^ 32 → back.nodes ≡ out.nodes → IfSome met (λ m. m.weight < 2 ^ 126)
met_light {forward = forward} {backward = backward} {met = met} u few same = light met u.meets
  where
    light : (met : Option Meeting) → IsMet forward.reached backward.reached met → IfSome met (λ m. m.weight < 2 ^ 126)
    light None m = tt
    light (Some best) m =
        let f = m.found in
        let a = light_in u.first.underway few best.node.0 f.0 f.2 in
        let b = light_in u.second.underway (omega arith) best.node.0 f.1 f.3 in
        let c = m.best best.node.0 f.0 f.1 f.2 f.3 in
        omega arith

none_reached : (n : ℕ) (v : ℕ) (reach : Reach) → reach_at (replicate n None) v ≡ Some reach → ⊥
none_reached n v reach e = let a = nowhere Reach n v in cc

-- a side before its first start
pub begin_side : (network : Network) (ahead behind : ℕ → Option ℕ) (end n b : ℕ) (side : Side) → n ≡ network.nodes → end < network.nodes → reduced_by ahead behind end ≡ Some b → AreSmall ahead behind end → side.reached ≡ slice_set (replicate n None) end (Some (record { weight = 0; depth = 0; last = None })) → IsNext side.next (slice_set (replicate n None) end (Some b)) side.queue → side.settled ≡ 0 → IsSide network ahead behind end 0 side
begin_side network ahead behind end n b side l inside b_is small reached next settled =
    let begin = begin_at network (reduced_by ahead behind) end n b l inside b_is in
    record {
      open_keys = slice_set (replicate n None) end (Some b);
      node = 0;
      underway = rw (reached, settled) begin.0;
      ordered = rw reached begin.1;
      next = next;
      asked = rw reached (asked_at ahead behind (replicate n None) end _ (λ v r e. absurd (none_reached n v r e)) small);
    }

-- both sides before the first turn
pub begin_both : (out back : Network) (ahead behind : ℕ → Option ℕ) (start target n : ℕ) (forward backward : Side) → start ≢ target → IsSide out ahead behind start 0 forward → IsSide back behind ahead target 0 backward → forward.reached ≡ slice_set (replicate n None) start (Some (record { weight = 0; depth = 0; last = None })) → backward.reached ≡ slice_set (replicate n None) target (Some (record { weight = 0; depth = 0; last = None })) → forward.settled ≡ 0 → backward.settled ≡ 0 → AreUnderway out back ahead behind start target forward backward None
begin_both out back ahead behind start target n forward backward apart first second reached reached' settled settled' = record {
  near = 0;
  far = 0;
  first = first;
  second = second;
  meets = record {
    best = λ node here there h t.
        let x = only_begun n start node here (sym (ap (λ xs. reach_at xs node) reached) ∙ h) in
        let y = only_begun n target node there (sym (ap (λ xs. reach_at xs node) reached') ∙ t) in
        absurd (apart (sym x ∙ y));
    found = tt;
  };
  within = λ hops walk. omega arith;
  turns = inl (settled ∙ sym settled');
}
