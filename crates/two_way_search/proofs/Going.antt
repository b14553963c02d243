-- A side while the hops of a node are taken into account.
use Rattle.std.proofs.Common.{◌≡◌, ℕ, ◌+◌, ◌*◌, ◌^◌, ◌<◌, ◌≤◌, Option, Some, None, IsSome, IfSome, IfNone, IsSomeAnd, List, [], ◌∷◌, length, Contains, refl, sym, subst, ap, ◌∙◌, inl, inr, arith}
use Rattle.std.specs.Prelude.{slice_set}
use Rattle.std.proofs.lemmas.List.{get_or-set_other}
use Rattle.std.proofs.lemmas.Bool.{cases_eq}
use Rattle.gh_base.specs.declared.edges.Hop.{Hop}
use Rattle.gh_base.specs.declared.edges.NodeId.{NodeId}
use Rattle.gh_base.specs.Networks.{Network, LeadsToNodes, wanted_from}
use Rattle.walk_rules.specs.Walks.{hops_from}
use Rattle.search_queue.specs.Keys.{key_at}
use Rattle.alt_search.specs.declared.reach.Reach.{Reach}
use Rattle.alt_search.specs.Progress.{reach_at, IsSettled, is_settled, is_known_within}
use Rattle.walk_rules.proofs.Counting.{count_below-le}
use Rattle.alt_search.specs.Kept.{weight_if}
use Rattle.alt_search.proofs.Listed.{emptied}
use Rattle.alt_search.proofs.Useful.{first_left, later_left}
use Rattle.two_way_search.specs.declared.meeting.Meeting.{Meeting}
use Rattle.two_way_search.specs.declared.side.Side.{Side}
use Rattle.two_way_search.specs.Sides.{reduced_by, FallsTwice, AreSmall, AreAsked, IsOrdered, IsUnderway, Relaxes, IsNext, IsSide}
use Rattle.two_way_search.specs.Meetings.{IsNoHeavier, IsFound, IsMet}
use Rattle.two_way_search.proofs.Settle.{settle_ordered}
use Rattle.two_way_search.proofs.Relax.{relax_ordered, relax_settled, relax_reached, relax_elsewhere}
use Rattle.two_way_search.proofs.Useful.{leave_passed}
use Rattle.two_way_search.proofs.Underway.{settle_underway, relax_underway}

-- walks have fewer hops than there are nodes
pub few_settled : {network : Network} {bound : ℕ → Option ℕ} {end settled : ℕ} {reached : List (Option Reach)} {keys : List (Option ℕ)} → IsUnderway network bound end settled reached keys → settled ≤ network.nodes
few_settled {network} {reached = reached} {keys = keys} w = omega (arith, w.counted, count_below-le (is_settled reached keys) network.nodes)

pub light_in : {network : Network} {bound : ℕ → Option ℕ} {end settled : ℕ} {reached : List (Option Reach)} {keys : List (Option ℕ)} → IsUnderway network bound end settled reached keys → network.nodes < 2 ^ 32 → (v : ℕ) (reach : Reach) → reach_at reached v ≡ Some reach → reach.weight ≤ 2 ^ 96
light_in w few v reach r = let s = w.tree.small v reach r in omega (arith, few_settled w, s.0, s.1)

-- one node was settled, and some of its hops are left
pub record IsGoing (network : Network) (ahead behind : ℕ → Option ℕ) (end settled : ℕ) (node : NodeId) (key : ℕ) (from : Reach) (reached : List (Option Reach)) (keys : List (Option ℕ)) (left : List Hop) : Type 0 where
  pub underway : IsUnderway network (reduced_by ahead behind) end settled reached keys
  pub from_settled : IsSettled reached keys node.0 from
  pub deep : from.depth + 1 ≤ settled
  pub rest : (hop : Hop) → Contains left hop → Contains (hops_from network node.0) hop
  pub b : ℕ
  pub bound_is : reduced_by ahead behind node.0 ≡ Some b
  pub key_is : key ≡ 2 * from.weight + b
  pub ordered : IsOrdered network (reduced_by ahead behind) (2 * from.weight + b) reached keys node.0 left
  pub asked : AreAsked ahead behind reached

-- what is asked when a node is reached
pub asked_at : (ahead behind : ℕ → Option ℕ) (reached : List (Option Reach)) (node : ℕ) (reach : Reach) → AreAsked ahead behind reached → AreSmall ahead behind node → AreAsked ahead behind (slice_set reached node (Some reach))
asked_at ahead behind reached node reach a s v r e = elim (cases_eq v node) [
  | inl same ↦ subst (λ (n : ℕ). AreSmall ahead behind n) (sym same) s
  | inr ne ↦ a v r (sym (get_or-set_other reached node v (Some reach) None ne) ∙ e)
]

-- a node whose walk has a weight was reached
pub weighed : (o : Option Reach) (x : ℕ) → weight_if o ≡ Some x → (reach : Reach) × (o ≡ Some reach)
weighed None x e = absurd (cc)
weighed (Some reach) x e = (reach, refl)

-- the next of a side is open, with what is known of it
pub next_known : {network : Network} {ahead behind : ℕ → Option ℕ} {end least : ℕ} {side : Side} (s : IsSide network ahead behind end least side) → (next : NodeId × ℕ) → side.next ≡ Some next → (reach : Reach) × (b : ℕ) × (reach_at side.reached next.0.0 ≡ Some reach) × (reduced_by ahead behind next.0.0 ≡ Some b) × (next.1 ≡ 2 * reach.weight + b) × (key_at s.open_keys next.0.0 ≡ Some next.1) × ((node key : ℕ) → key_at s.open_keys node ≡ Some key → next.1 ≤ key) × (side.queue ≡ slice_set s.open_keys next.0.0 None)
next_known {side = side} s next e =
    let n = subst (λ (o : Option (NodeId × ℕ)). IsNext o s.open_keys side.queue) e s.next in
    let q = s.underway.tree.queued next.0.0 next.1 n.0 in
    (q.0, q.1, q.2, q.3, q.4, n.0, n.1, n.2)

pub begin_going : {network : Network} {ahead behind : ℕ → Option ℕ} {end least : ℕ} {side : Side} → IsSide network ahead behind end least side → (node : NodeId) (key : ℕ) (from : Reach) → side.next ≡ Some (node, key) → reach_at side.reached node.0 ≡ Some from → IsGoing network ahead behind end (side.settled + 1) node key from side.reached side.queue (hops_from network node.0)
begin_going {network} {ahead} {behind} {end} {least} {side} s node key from e r =
    let n = next_known s (node, key) e in
    let same : n.0 ≡ from = let a = n.2 in cc in
    let weighs : n.0.weight ≡ from.weight = ap (λ (r : Reach). r.weight) same in
    let sum : key ≡ 2 * from.weight + n.1 = n.4 ∙ ap (λ w. 2 * w + n.1) weighs in
    let w = settle_underway node.0 key s.underway n.5 in
    let settled = settle_ordered node.0 key s.underway.tree s.ordered n.5 n.6 in
    rw n.7 (record {
      underway = w;
      from_settled = record { reach_is = r; no_key = emptied s.open_keys node.0 };
      deep = omega (arith, (s.underway.tree.small node.0 from r).0);
      rest = λ hop h. h;
      b = n.1;
      bound_is = n.3;
      key_is = sum;
      ordered = rw (← sum) settled;
      asked = s.asked;
    })

module _ {network : Network} {ahead behind : ℕ → Option ℕ} {end settled : ℕ} {node : NodeId} {key : ℕ} {from : Reach} {reached : List (Option Reach)} {keys : List (Option ℕ)} {left : List Hop} (leads : LeadsToNodes network) (i : IsGoing network ahead behind end settled node key from reached keys left) where
  -- the next hop is one of the node's, and leads to a node
  pub next_contained : (hop : Hop) (rest : List Hop) → wanted_from (is_known_within reached from.weight) left ≡ hop ∷ rest → Contains (hops_from network node.0) hop
  next_contained hop rest e = i.rest hop (first_left (is_known_within reached from.weight) left hop rest e)

  pub next_inside : (hop : Hop) (rest : List Hop) → wanted_from (is_known_within reached from.weight) left ≡ hop ∷ rest → (hop.to.0 < network.nodes) × (hop.to.0 < length reached) × (hop.to.0 < length keys)
  next_inside hop rest e =
      let l = leads node.0 hop (next_contained hop rest e) in
      (l, omega (arith, i.underway.long_reached), omega (arith, i.underway.long_keys))

  -- no walk is heavier than this
  pub all_light : network.nodes < 2 ^ 32 → (v : ℕ) (reach : Reach) → reach_at reached v ≡ Some reach → reach.weight ≤ 2 ^ 96
  all_light few v reach r = light_in i.underway few v reach r

  module _ (hop : Hop) (rest : List Hop) (e : wanted_from (is_known_within reached from.weight) left ≡ hop ∷ rest) (falls : FallsTwice network (reduced_by ahead behind)) {reached' : List (Option Reach)} {keys' : List (Option ℕ)} (r : Relaxes (reduced_by ahead behind) node from hop reached keys reached' keys') where
    pub step_going : AreAsked ahead behind reached' → IsGoing network ahead behind end settled node key from reached' keys' rest
    step_going asked =
        let contains = next_contained hop rest e in
        let inside = next_inside hop rest e in
        record {
          underway = relax_underway i.underway i.from_settled contains inside.0 i.deep r;
          from_settled = relax_settled i.underway.tree i.from_settled contains inside.1 inside.2 r node.0 from i.from_settled;
          deep = i.deep;
          rest = λ h l. i.rest h (later_left (is_known_within reached from.weight) left hop rest e h l);
          b = i.b;
          bound_is = i.bound_is;
          key_is = i.key_is;
          ordered = relax_ordered i.underway.tree i.from_settled contains inside.1 inside.2 r falls i.bound_is rest (rw e at (leave_passed i.from_settled left i.ordered));
          asked = asked;
        }

    -- the best walk, where the head's were compared
    pub step_met : (other : List (Option Reach)) (met met' : Option Meeting) → IsMet reached other met → IsNoHeavier reached' other met' hop.to.0 → IfSome met (λ m. IsSome met' × IfSome met' (λ best. best.weight ≤ m.weight)) → (IsFound reached' other met → IsFound reached' other met') → IsMet reached' other met'
    step_met other met met' m at_head lighter found =
        let contains = next_contained hop rest e in
        let inside = next_inside hop rest e in
        record {
          best = λ v. elim (cases_eq v hop.to.0) [
            | inl same ↦ subst (λ (n : ℕ). IsNoHeavier reached' other met' n) (sym same) at_head
            | inr ne ↦ λ here there h t. pass met met' (here.weight + there.weight) lighter (m.best v here there (sym (relax_elsewhere i.underway.tree i.from_settled contains inside.1 inside.2 r v ne) ∙ h) t)
          ];
          found = found (still met m.found);
        }
      where
        pass : (met met' : Option Meeting) (limit : ℕ) → IfSome met (λ m. IsSome met' × IfSome met' (λ best. best.weight ≤ m.weight)) → IsSomeAnd met (λ m. m.weight ≤ limit) → IsSomeAnd met' (λ m. m.weight ≤ limit)
        pass None met' limit l s = absurd s
        pass (Some m) None limit l s = absurd (let a = l.0 in cc)
        pass (Some m) (Some best) limit l s = omega (arith, l.1)

        still : (met : Option Meeting) → IsFound reached other met → IsFound reached' other met
        still None f = tt
        still (Some m) f =
            let contains = next_contained hop rest e in
            let inside = next_inside hop rest e in
            let n = relax_reached i.underway.tree i.from_settled contains inside.1 inside.2 r m.node.0 f.0 f.2 in
            (n.0, f.1, n.1, f.3, omega (arith, n.2, f.4))

  pub end_going : wanted_from (is_known_within reached from.weight) left ≡ [] → (next : Option (NodeId × ℕ)) (queue : List (Option ℕ)) → IsNext next keys queue → IsSide network ahead behind end key (record { reached = reached; queue = queue; next = next; settled = settled })
  end_going e next queue n = record {
    open_keys = keys;
    node = node.0;
    underway = i.underway;
    ordered = rw i.key_is (rw e at (leave_passed i.from_settled left i.ordered));
    next = n;
    asked = i.asked;
  }

-- a queue from which a least node was taken
pub popped : (next : Option (NodeId × ℕ)) (open_keys keys : List (Option ℕ)) → IfNone next ((node : ℕ) → key_at open_keys node ≡ None) → IfNone next (keys ≡ open_keys) → IfSome next (λ f. key_at open_keys f.0.0 ≡ Some f.1) → IfSome next (λ f. (node key : ℕ) → key_at open_keys node ≡ Some key → f.1 ≤ key) → IfSome next (λ f. keys ≡ slice_set open_keys f.0.0 None) → IsNext next open_keys keys
popped None open_keys keys none stays found least taken = (none, stays)
popped (Some f) open_keys keys none stays found least taken = (found, least, taken)
