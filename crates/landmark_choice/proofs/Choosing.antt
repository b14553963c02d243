-- One landmark more, and where the choice ends.
use Rattle.std.proofs.Common.{◌≡◌, ℕ, ◌<◌, ◌≤◌, min, Option, Some, None, List, [], ◌∷◌, ◌++◌, length, length-append, take, Contains, refl, sym, subst, ap, ◌∙◌, inl, inr, zero, suc, arith}
use Rattle.std.specs.Prelude.{slice_index}
use Rattle.std.proofs.lemmas.Bool.{cases_lt}
use Rattle.std.proofs.lemmas.List.{take-append-le, get_or_append_left, get_or_past}
use Rattle.std.proofs.lemmas.List.Elements.{Contains-append_left, Contains-append_right, Contains-append_cases}
use Rattle.std.proofs.Math.Seq.{get_or-append_seam, take-append_seam}
use Rattle.gh_base.specs.Networks.{Network}
use Rattle.walk_rules.specs.Walks.{NoWalk, IsLeastWeight, IsAtMostEachWalk}
use Rattle.walk_rules.specs.Distances.{IsReach}
use Rattle.alt_search.specs.declared.explored.Explored.{Explored}
use Rattle.alt_search.specs.declared.reach.Reach.{Reach}
use Rattle.alt_search.specs.Progress.{reach_at}
use Rattle.alt_search.specs.Exploring.{told, weight_in, nodes_in}
use Rattle.landmark_choice.specs.Farthest.{IsNearAt, IsNear, AreNear, IsFarthest, AreFarthest, IsGreatestDistance, lesser, distance_at, IsGreatest}

only_one : (s t : ℕ) → Contains (s ∷ []) t → s ≡ t
only_one s t (zero, l, e) = e
only_one s t (suc k, l, e) = absurd (omega arith)

the_one : (s : ℕ) → Contains (s ∷ []) s
the_one s = (0, omega arith, refl)

-- from one node
near_one : (network : Network) (s v : ℕ) (weight : Option ℕ) → IsReach network s v weight → IsNear network (s ∷ []) v weight
near_one network s v None r = λ source c. subst (λ (n : ℕ). NoWalk network n v) (only_one s source c) r
near_one network s v (Some w) r = record {
  source = s;
  one_of = the_one s;
  walk = r;
  nearest = λ other c. subst (λ (n : ℕ). IsAtMostEachWalk network n v w) (only_one s other c) (λ others walk. let l = r.is_least.least others walk in let e = r.weight_is in omega arith);
}

told_none : (reach : Option Reach) (key : Option ℕ) → reach ≡ None → told reach key ≡ None
told_none reach key e = ap (λ (r : Option Reach). told r key) e

-- what an exploration tells, as a list
pub near_explored : (network : Network) (s : ℕ) (explored : Explored) (list : List (Option ℕ)) → length list ≡ nodes_in explored → ((node : ℕ) → node < nodes_in explored → distance_at list node ≡ weight_in explored node) → ((node : ℕ) → IsReach network s node (weight_in explored node)) → AreNear network (s ∷ []) (distance_at list)
near_explored network s explored list long each reach node =
    let same : distance_at list node ≡ weight_in explored node =
    elim (cases_lt node (nodes_in explored)) [
      | inl l ↦ each node l
      | inr p ↦ get_or_past list node None (omega arith) ∙ sym (told_none (reach_at explored.reached node) _ (get_or_past explored.reached node None p))
    ] in
    subst (λ (d : Option ℕ). IsNear network (s ∷ []) node d) (sym same) (near_one network s node (weight_in explored node) (reach node))

module _ (network : Network) (sources : List ℕ) (more v : ℕ) where
  -- two lists of sources together
  near_both : (near own : Option ℕ) → IsNear network sources v near → IsNear network (more ∷ []) v own → IsNear network (sources ++ more ∷ []) v (lesser near own)
  near_both None None n o = λ source c. elim (Contains-append_cases sources (more ∷ []) source c) [ inl l ↦ n source l | inr r ↦ o source r ]
  near_both None (Some y) n o = record {
    source = o.source;
    one_of = Contains-append_right sources (more ∷ []) o.source o.one_of;
    walk = o.walk;
    nearest = λ other c. elim (Contains-append_cases sources (more ∷ []) other c) [ inl l ↦ (λ hops walk. absurd (n other l hops walk)) | inr r ↦ o.nearest other r ];
  }
  near_both (Some x) None n o = record {
    source = n.source;
    one_of = Contains-append_left sources (more ∷ []) n.source n.one_of;
    walk = n.walk;
    nearest = λ other c. elim (Contains-append_cases sources (more ∷ []) other c) [ inl l ↦ n.nearest other l | inr r ↦ (λ hops walk. absurd (o other r hops walk)) ];
  }
  near_both (Some x) (Some y) n o =
      let each : (other : ℕ) → Contains (sources ++ more ∷ []) other → IsAtMostEachWalk network other v (min x y) =
      λ other c hops walk. elim (Contains-append_cases sources (more ∷ []) other c) [
        | inl l ↦ let h = n.nearest other l hops walk in omega arith
        | inr r ↦ let h = o.nearest other r hops walk in omega arith
      ] in
      elim (cases_lt x y) [
        | inl l ↦
            let e : min x y ≡ x = omega arith in
            record {
              source = n.source;
              one_of = Contains-append_left sources (more ∷ []) n.source n.one_of;
              walk = subst (λ (d : ℕ). IsLeastWeight network n.source v d) (sym e) n.walk;
              nearest = each;
            }
        | inr g ↦
            let e : min x y ≡ y = omega arith in
            record {
              source = o.source;
              one_of = Contains-append_right sources (more ∷ []) o.source o.one_of;
              walk = subst (λ (d : ℕ). IsLeastWeight network o.source v d) (sym e) o.walk;
              nearest = each;
            }
      ]

-- the nearest of one node more
pub near_more : (network : Network) (sources : List ℕ) (more : ℕ) (near own next : ℕ → Option ℕ) → AreNear network sources near → AreNear network (more ∷ []) own → ((v : ℕ) → next v ≡ lesser (near v) (own v)) → AreNear network (sources ++ more ∷ []) next
near_more network sources more near own next n o e v =
    subst (λ (d : Option ℕ). IsNear network (sources ++ more ∷ []) v d) (sym (e v)) (near_both network sources more v (near v) (own v) (n v) (o v))

-- there is one distance from the nearest
near_least : (network : Network) (sources : List ℕ) (v x y : ℕ) → IsNearAt network sources v x → IsNearAt network sources v y → x ≤ y
near_least network sources v x y a b =
    let l = a.nearest b.source b.one_of b.walk.hops b.walk.is_least.walk in
    let e = b.walk.weight_is in omega arith

near_some : (network : Network) (sources : List ℕ) (v y : ℕ) (near : Option ℕ) → IsNear network sources v near → IsNearAt network sources v y → near ≡ Some y
near_some network sources v y None n a = absurd (n a.source a.one_of a.walk.hops a.walk.is_least.walk)
near_some network sources v y (Some x) n a = ap Some (omega (arith, near_least network sources v x y n a, near_least network sources v y x a n))

near_at : (network : Network) (sources : List ℕ) (v d : ℕ) (near : Option ℕ) → IsNear network sources v near → near ≡ Some d → IsNearAt network sources v d
near_at network sources v d near n e = subst (λ (o : Option ℕ). IsNear network sources v o) e n

-- the greatest distance in a list is that of the farthest node
pub farthest_of : (network : Network) (sources : List ℕ) (list : List (Option ℕ)) (node d : ℕ) → AreNear network sources (distance_at list) → IsGreatest list node d → IsFarthest network sources node d
farthest_of network sources list node d n g = record {
  at = near_at network sources node d (distance_at list node) (n node) g.at;
  greatest = λ other e a. g.greatest other e (near_some network sources other e (distance_at list other) (n other) a);
  first = λ other e a l. g.first other e (near_some network sources other e (distance_at list other) (n other) a) l;
}

-- the farthest from one node is at the greatest distance from it
first_is_far : (network : Network) (start node d : ℕ) → IsFarthest network (start ∷ []) node d → IsGreatestDistance network start d
first_is_far network start node d f = record {
  node = node;
  walk = subst (λ (s : ℕ). IsLeastWeight network s node d) (sym (only_one start f.at.source f.at.one_of)) f.at.walk;
  greatest = λ other e walk. f.greatest other e (near_one network start other (Some e) walk);
}

pub greatest_from : (network : Network) (start : ℕ) (list : List (Option ℕ)) (node d : ℕ) → AreNear network (start ∷ []) (distance_at list) → IsGreatest list node d → IsGreatestDistance network start d
greatest_from network start list node d n g = first_is_far network start node d (farthest_of network (start ∷ []) list node d n g)

-- from no node there is no distance
pub near_none : (network : Network) (near : ℕ → Option ℕ) → ((node : ℕ) → near node ≡ None) → AreNear network [] near
near_none network near none node = subst (λ (d : Option ℕ). IsNear network [] node d) (sym (none node)) (λ source c. absurd (omega (arith, c.1)))

-- where a list has no distance above 0, no node is at one
pub all_near : (network : Network) (sources : List ℕ) (list : List (Option ℕ)) → AreNear network sources (distance_at list) → ((node d : ℕ) → distance_at list node ≡ Some d → d ≡ 0) → (node d : ℕ) → IsNearAt network sources node d → d ≡ 0
all_near network sources list n z node d a = z node d (near_some network sources node d (distance_at list node) (n node) a)

-- the distance of a node from itself is there
pub own_distance : (network : Network) (node : ℕ) (distance : Option ℕ) → IsNear network (node ∷ []) node distance → distance ≡ None → ⊥
own_distance network node None n e = n node (the_one node) [] refl
own_distance network node (Some d) n e = absurd (cc)

-- the first landmark
pub first_one : (network : Network) (start node d : ℕ) → IsFarthest network (start ∷ []) node d → AreFarthest network start (node ∷ [])
first_one network start node d f = record {
  some = omega arith;
  first_distance = d;
  first = f;
  further = λ k p l. absurd (omega arith);
}

-- one landmark more
pub one_more : (network : Network) (start : ℕ) (landmarks : List ℕ) (node d : ℕ) → AreFarthest network start landmarks → IsFarthest network landmarks node d → 0 < d → AreFarthest network start (landmarks ++ node ∷ [])
one_more network start landmarks node d a f p = record {
  some = omega (arith, length-append landmarks (node ∷ []), a.some);
  first_distance = a.first_distance;
  first =
      let l = a.some in
      let e : slice_index (landmarks ++ node ∷ []) 0 ≡ slice_index landmarks 0 = get_or_append_left landmarks (node ∷ []) 0 0 l in
      subst (λ (n : ℕ). IsFarthest network (start ∷ []) n a.first_distance) (sym e) a.first;
  further = λ k some within. elim (cases_lt k (length landmarks)) [
    | inl l ↦
        let e : slice_index (landmarks ++ node ∷ []) k ≡ slice_index landmarks k = get_or_append_left landmarks (node ∷ []) 0 k l in
        let t : take k (landmarks ++ node ∷ []) ≡ take k landmarks = take-append-le k landmarks (node ∷ []) (omega arith) in
        let old = a.further k some l in
        (old.0, subst (λ (n : ℕ). IsFarthest network (take k (landmarks ++ node ∷ [])) n old.0) (sym e) (subst (λ (xs : List ℕ). IsFarthest network xs (slice_index landmarks k) old.0) (sym t) old.1), old.2)
    | inr g ↦
        let same : k ≡ length landmarks = omega (arith, length-append landmarks (node ∷ [])) in
        let e : slice_index (landmarks ++ node ∷ []) k ≡ node = ap (λ (n : ℕ). slice_index (landmarks ++ node ∷ []) n) same ∙ get_or-append_seam landmarks node [] 0 in
        let t : take k (landmarks ++ node ∷ []) ≡ landmarks = ap (λ (n : ℕ). take n (landmarks ++ node ∷ [])) same ∙ take-append_seam landmarks (node ∷ []) in
        (d, subst (λ (n : ℕ). IsFarthest network (take k (landmarks ++ node ∷ [])) n d) (sym e) (subst (λ (xs : List ℕ). IsFarthest network xs node d) (sym t) f), p)
  ];
}
