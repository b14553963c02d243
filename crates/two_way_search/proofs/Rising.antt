-- What lies behind a node rises along each hop by no more than its weight, where labels fit.
use Rattle.std.specs.Prelude.{nat_lt}
use Rattle.std.proofs.Common.{◌≡◌, ℕ, ◌-◌, ◌<◌, max, unwrap_or, All, Option, Some, None, IsSome, List, [], ◌∷◌, refl, sym, subst, ap, ◌∙◌, inl, inr, arith}
use Rattle.std.proofs.lemmas.Bool.{cases_Bool, lt-ltb}
use Rattle.gh_base.specs.Networks.{Network, LeadsToNodes}
use Rattle.walk_rules.specs.Walks.{cost, IsNoFaster}
use Rattle.walk_rules.specs.Potentials.{IsWithin, FallsAlong, IsFeasible}
use Rattle.walk_rules.specs.Distances.{label_at}
use Rattle.landmark_prep.specs.Packing.{Labels}
use Rattle.landmark_prep.specs.Bounds.{Fits, over, greater, bound_of, bound_by, labels_at, picked}
use Rattle.landmark_prep.proofs.Feasible.{bound_at_target, picked_fit}
use Rattle.walk_rules.specs.Turned.{IsTurned}
use Rattle.two_way_search.specs.Behind.{behind_of}

-- how each word keeps within a weight
over_first : (w : ℕ) (here there last : Option ℕ) → IsWithin w there here → IsWithin w (over here last) (over there last)
over_first w None there last h y e = (0, refl, omega arith)
over_first w (Some x) None last h y e = absurd (let s = h x refl in let t = s.1 in cc)
over_first w (Some x) (Some z) None h y e = absurd (cc)
over_first w (Some x) (Some z) (Some t) h y e =
    let s = h x refl in
    let a : s.0 ≡ z = let b = s.1 in cc in
    let d : t - z ≡ y = cc in
    (t - x, refl, let b = s.2 in omega arith)

over_second : (w : ℕ) (first here there : Option ℕ) → IsWithin w here there → IsWithin w (over first here) (over first there)
over_second w None here there h y e = (0, refl, omega arith)
over_second w (Some t) here None h y e = absurd (cc)
over_second w (Some t) here (Some z) h y e =
    let s = h z refl in
    let d : z - t ≡ y = cc in
    (s.0 - t, ap (over (Some t)) s.1, let b = s.2 in omega arith)

greater_within : (w : ℕ) (p q p' q' : Option ℕ) → IsWithin w p p' → IsWithin w q q' → IsWithin w (greater p q) (greater p' q')
greater_within w p q None q' f g y e = absurd (cc)
greater_within w p q (Some a) None f g y e = absurd (cc)
greater_within w p q (Some a) (Some b) f g y e =
    let s = f a refl in
    let t = g b refl in
    let d : max a b ≡ y = cc in
    (max s.0 t.0, ap (λ (o : Option ℕ). greater o q) s.1 ∙ ap (greater (Some s.0)) t.1, let k = s.2 in let l = t.2 in omega arith)

module _ {base network back : Network} (labels : List Labels) (fit : All (Fits base) labels) (slower : IsNoFaster base network) (turned : IsTurned network back) (start : ℕ) where
  -- along each hop of the roads turned round it falls
  behind_falls : (places : List ℕ) → FallsAlong back (bound_by (picked labels places) start)
  behind_falls [] node hop c s = λ y e. (0, refl, omega arith)
  behind_falls (place ∷ places) node hop c s =
      let here = labels_at labels place in
      let fits : Fits network here = (picked_fit base network labels slower fit (place ∷ [])).0 in
      let other = turned.here node hop c s in
      let weighs : cost other.0 ≡ cost hop = ap (λ (x : Option ℕ). unwrap_or x 0) other.4 in
      let there = subst (λ (x : Option ℕ). IsSome x) (sym other.4) s in
      let rises : IsWithin (cost hop) (label_at here.from node) (label_at here.from hop.to.0) =
      subst (λ (w : ℕ). IsWithin w (label_at here.from node) (label_at here.from hop.to.0)) weighs (subst (λ (n : ℕ). IsWithin (cost other.0) (label_at here.from n) (label_at here.from hop.to.0)) other.2 (fits.rises hop.to.0 other.0 other.1 there)) in
      let falls : IsWithin (cost hop) (label_at here.to hop.to.0) (label_at here.to node) =
      subst (λ (w : ℕ). IsWithin w (label_at here.to hop.to.0) (label_at here.to node)) weighs (subst (λ (n : ℕ). IsWithin (cost other.0) (label_at here.to hop.to.0) (label_at here.to n)) other.2 (fits.falls hop.to.0 other.0 other.1 there)) in
      greater_within (cost hop) (bound_of here start node) (bound_by (picked labels places) start node) (bound_of here start hop.to.0) (bound_by (picked labels places) start hop.to.0)
      (greater_within (cost hop) (over (label_at here.from start) (label_at here.from node)) (over (label_at here.to node) (label_at here.to start)) (over (label_at here.from start) (label_at here.from hop.to.0)) (over (label_at here.to hop.to.0) (label_at here.to start))
      (over_second (cost hop) (label_at here.from start) (label_at here.from node) (label_at here.from hop.to.0) rises)
      (over_first (cost hop) (label_at here.to node) (label_at here.to hop.to.0) (label_at here.to start) falls))
      (behind_falls places node hop c s)

  pub behind_feasible : (places : List ℕ) (count : ℕ) → LeadsToNodes back → back.nodes ≡ count → start < count → IsFeasible back (behind_of (picked labels places) start count) start
  behind_feasible places count leads nodes within = record {
    at_target = let t = lt-ltb start count within in rw t (bound_at_target (picked labels places) start);
    along = λ node hop c s. elim (cases_Bool (nat_lt node count)) [
      | inl t ↦ let n = lt-ltb hop.to.0 count (let l = leads node hop c in omega arith) in rw (t, n) (behind_falls places node hop c s)
      | inr f ↦ rw f (λ y e. (0, refl, omega arith))
    ];
  }
