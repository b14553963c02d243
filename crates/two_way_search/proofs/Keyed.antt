-- What both sides were started at, by the keys of nodes.
use Rattle.std.proofs.Common.{◌≡◌, ℕ, ◌+◌, ◌-◌, ◌*◌, ◌^◌, ◌<◌, ◌≤◌, ◌⊎◌, true, Option, Some, None, List, refl, ap, inl, inr, arith}
use Rattle.gh_base.specs.declared.edges.Hop.{Hop}
use Rattle.gh_base.specs.declared.edges.NodeId.{NodeId}
use Rattle.gh_base.specs.Networks.{Network}
use Rattle.walk_rules.specs.Walks.{IsWalk, weight_of}
use Rattle.walk_rules.proofs.Walking.{falls_along_walk}
use Rattle.walk_rules.proofs.Options.{some_of}
use Rattle.walk_rules.proofs.Single.{one_least_weight}
use Rattle.search_queue.specs.Keys.{key_at}
use Rattle.alt_search.specs.declared.reach.Reach.{Reach}
use Rattle.alt_search.specs.Progress.{reach_at, IsSettled, is_settled}
use Rattle.alt_search.proofs.Underway.{settled_true, true_settled}
use Rattle.two_way_search.specs.declared.side.Side.{Side}
use Rattle.two_way_search.specs.Keys.{IsKey, IsBelow, StartsOnSide}
use Rattle.two_way_search.specs.Opposed.{AreOpposed}
use Rattle.two_way_search.specs.Sides.{reduced_by, IsNext, IsSide}
use Rattle.two_way_search.proofs.Facing.{reduced_falls, passed_rises, passed_below, reduced_both, reduced_is, left_there, small_passed}
use Rattle.two_way_search.proofs.Trees.{walk_of}
use Rattle.two_way_search.proofs.Frontier.{on_walk, settled_least}
use Rattle.two_way_search.proofs.Going.{next_known}

-- a number of a side as it stands in the queue, in place of the key: it is over it by 2^64 and what is left at the end
abbrev pub over : ℕ → ℕ → ℕ
over key end_left = key + end_left + 2 ^ 64

module _ {out back : Network} {ahead behind : ℕ → Option ℕ} {start target least : ℕ} {side : Side} (o : AreOpposed out back ahead behind start target) (s : IsSide out ahead behind start least side) (first : ℕ) (first_is : ahead start ≡ Some first) where
  -- both bounds of a node that was reached, and its walk
  pub record IsKnown (node weight b : ℕ) : Type 0 where
    pub left : ℕ
    pub left_is : ahead node ≡ Some left
    pub passed : ℕ
    pub passed_is : behind node ≡ Some passed
    pub b_is : b ≡ left + (2 ^ 64 - passed)
    pub small : passed < 2 ^ 64
    pub hops : List Hop
    pub walk : IsWalk out start hops node
    pub weighs : weight_of hops ≡ weight
    pub first_below : first ≤ weight + left
    pub passed_below : passed ≤ weight

  pub known : (node : ℕ) (reach : Reach) (b : ℕ) → reach_at side.reached node ≡ Some reach → reduced_by ahead behind node ≡ Some b → IsKnown node reach.weight b
  known node reach b r b_is =
      let way = walk_of s.underway.tree node reach r in
      let passed = passed_below o way.0 node way.1 in
      let left = left_there ahead behind node b b_is in
      let asked = s.asked node reach r in
      let falls = falls_along_walk out ahead o.left.along way.0 start node way.1 left.0 left.1 in
      let same : falls.0 ≡ first = let a = falls.1 in cc in
      record {
        left = left.0;
        left_is = left.1;
        passed = passed.0;
        passed_is = passed.1;
        b_is = reduced_both ahead behind node left.0 passed.0 b left.1 passed.1 b_is;
        small = small_passed ahead behind node passed.0 asked passed.1;
        hops = way.0;
        walk = way.1;
        weighs = way.2;
        first_below = omega (arith, falls.2, way.2);
        passed_below = omega (arith, passed.2, way.2);
      }

  -- a settled node has a key
  pub settled_key : (node : ℕ) (reach : Reach) (b : ℕ) → IsSettled side.reached s.open_keys node reach → reduced_by ahead behind node ≡ Some b → (key : ℕ) × IsKey out ahead behind start node key × (over key first ≡ 2 * reach.weight + b)
  settled_key node reach b settled b_is =
      let k = known node reach b settled.reach_is b_is in (
        2 * reach.weight + k.left - (first + k.passed),
        record {
          distance = reach.weight;
          distance_is = record { hops = k.hops; is_least = record { walk = k.walk; least = λ others walk. omega (arith, k.weighs, settled_least s.underway s.ordered (reduced_falls o) node reach settled others walk) }; weight_is = k.weighs };
          left = k.left;
          left_is = k.left_is;
          passed = k.passed;
          passed_is = k.passed_is;
          end_left = first;
          end_left_is = first_is;
          end_passed = 0;
          end_passed_is = o.passed.at_target;
          key_is = omega (arith, k.first_below, k.passed_below);
        },
        omega (arith, k.first_below, k.passed_below, k.b_is, k.small),
      )

  -- two keys of a node are one
  pub one_key : (node key other : ℕ) → IsKey out ahead behind start node key → IsKey out ahead behind start node other → key ≡ other
  one_key node key other k l =
      let d = one_least_weight out start node k.distance l.distance k.distance_is l.distance_is in
      let a : k.left ≡ l.left = let x = k.left_is in let y = l.left_is in cc in
      let b : k.passed ≡ l.passed = let x = k.passed_is in let y = l.passed_is in cc in
      let c : k.end_left ≡ l.end_left = let x = k.end_left_is in let y = l.end_left_is in cc in
      let e : k.end_passed ≡ l.end_passed = let x = k.end_passed_is in let y = l.end_passed_is in cc in
      omega (arith, k.key_is, l.key_is)

  -- the key of a settled node is no more than the last
  pub key_below : (node key : ℕ) → is_settled side.reached s.open_keys node ≡ true → IsKey out ahead behind start node key → over key first ≤ least
  key_below node key t k =
      let settled = settled_true side.reached s.open_keys node t in
      let b = some_of (reduced_by ahead behind node) (s.underway.tree.bounded node settled.0 settled.1.reach_is) in
      let own = settled_key node settled.0 b.0 settled.1 b.1 in
      let same = one_key node key own.0 k own.1 in
      omega (arith, own.2, s.ordered.below node settled.0 b.0 settled.1 b.1)

  -- a node with a key is settled, or what is next is no further
  pub key_above : (node key : ℕ) → IsKey out ahead behind start node key → (is_settled side.reached s.open_keys node ≡ true) ⊎ ((f : NodeId × ℕ) × (side.next ≡ Some f) × (f.1 ≤ over key first))
  key_above node key k =
      let least = k.distance_is.is_least in
      let walk = least.walk in
      let hops = k.distance_is.hops in
      elim (on_walk s.underway s.ordered (reduced_falls o) hops node (k.left + (2 ^ 64 - k.passed)) walk (reduced_is ahead behind node k.left k.passed k.left_is k.passed_is)) [
        | inr h ↦ inl (true_settled side.reached s.open_keys node h.reach h.settled)
        | inl p ↦
            let next = next_of side.next s.next p.node (2 * p.reach.weight + p.b) p.key_is in
            let q = known p.node p.reach p.b p.reach_is p.bound_is in
            let falls = falls_along_walk out ahead o.left.along p.rest p.node node p.walk k.left k.left_is in
            let rises = passed_rises o p.rest p.node node p.walk q.passed q.passed_is in
            let a : falls.0 ≡ q.left = let x = falls.1 in let y = q.left_is in cc in
            let b : rises.0 ≡ k.passed = let x = rises.1 in let y = k.passed_is in cc in
            let c : k.end_left ≡ first = let x = k.end_left_is in cc in
            let d : k.end_passed ≡ 0 = let x = k.end_passed_is in let y = o.passed.at_target in cc in
            inr (next.0, next.1, omega (arith, next.2, q.b_is, q.small, falls.2, rises.2, p.before, k.distance_is.weight_is, k.key_is))
      ]
    where
      next_of : (next : Option (NodeId × ℕ)) → IsNext next s.open_keys side.queue → (node key : ℕ) → key_at s.open_keys node ≡ Some key → (f : NodeId × ℕ) × (next ≡ Some f) × (f.1 ≤ key)
      next_of None n node key e = absurd (let a = n.0 node in cc)
      next_of (Some f) n node key e = (f, refl, n.1 node key e)

  -- what is next is over by as much
  pub next_over : (f : NodeId × ℕ) → side.next ≡ Some f → (x : ℕ) × (f.1 ≡ over x first)
  next_over f e =
      let n = next_known s f e in
      let k = known f.0.0 n.0 n.1 n.2 n.3 in
      (f.1 - (first + 2 ^ 64), omega (arith, n.4, k.b_is, k.small, k.first_below, k.passed_below))

  -- the key of the next, or over every number where there is none
  abbrev pub limit_of : Option (NodeId × ℕ) → Option ℕ
  limit_of None = None
  limit_of (Some f) = Some (f.1 - (first + 2 ^ 64))

  pub starts_on_side : StartsOnSide out ahead behind start (is_settled side.reached s.open_keys) side.settled (limit_of side.next)
  starts_on_side = record {
    count_is = s.underway.counted;
    only = λ node t.
        let settled = settled_true side.reached s.open_keys node t in
        let b = some_of (reduced_by ahead behind node) (s.underway.tree.bounded node settled.0 settled.1.reach_is) in
        let own = settled_key node settled.0 b.0 settled.1 b.1 in
        (own.0, own.1);
    each = λ node key k below. elim (key_above node key k) [
      | inl t ↦ t
      | inr h ↦ absurd (not_below side.next h.0 h.1 (over key first) h.2 key refl below)
    ];
  }
    where
      not_below : (next : Option (NodeId × ℕ)) (f : NodeId × ℕ) → next ≡ Some f → (limit : ℕ) → f.1 ≤ limit → (key : ℕ) → limit ≡ over key first → IsBelow key (limit_of next) → ⊥
      not_below None f e limit l key k b = cc
      not_below (Some g) f e limit l key k b =
          let same : g ≡ f = cc in
          let p : g.1 ≡ f.1 = ap (λ (x : NodeId × ℕ). x.1) same in
          omega arith
