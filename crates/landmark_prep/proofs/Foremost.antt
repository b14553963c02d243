-- The landmarks that say most: one more at the end, and that there is one list.
use Rattle.std.proofs.Common.{◌≡◌, ◌≢◌, ℕ, ◌+◌, ◌<◌, ◌≤◌, ◌⊎◌, true, false, Option, Some, None, List, [], ◌∷◌, ◌++◌, length, length-append, take, Contains, refl, sym, subst, ap, ◌∙◌, inl, inr, zero, suc, arith}
use Rattle.std.specs.Prelude.{slice_index, eqb, IfSome, IfNone, IsTrue, ◌↔◌, Bool}
use Rattle.std.specs.List.{list_any}
use Rattle.std.proofs.lemmas.Bool.{cases_lt, cases_Bool, eq-eqb}
use Rattle.std.proofs.lemmas.Map.Steps.{le-length_from_below}
use Rattle.std.proofs.lemmas.List.{get_or_append_left, get_or-take, take_all}
use Rattle.std.proofs.lemmas.List.Elements.{All-nil, All-cons, All-append, Contains-append_left, Contains-append_right}
use Rattle.std.proofs.Math.Seq.{get_or-append_seam, take-suc, take-length}
use Rattle.walk_rules.proofs.Options.{Contains-cons_cases}
use Rattle.landmark_prep.specs.Choosing.{SaysMore, Precedes, AreForemost, AreActive, IsForemost, IsBestSoFar}

-- none so far
pub foremost_none : (bound : ℕ → Option ℕ) (count : ℕ) → AreForemost bound count []
foremost_none bound count = record {
  within = All-nil (λ (place : ℕ). place < count);
  ordered = λ i j l m. absurd (omega arith);
  others = λ i place l m n. absurd (omega arith);
}

module _ (bound : ℕ → Option ℕ) (count : ℕ) (places : List ℕ) (more : ℕ) (f : AreForemost bound count places) (n : IsForemost bound count places more) where
  old_at : (i : ℕ) → i < length places → slice_index (places ++ more ∷ []) i ≡ slice_index places i
  old_at i l = get_or_append_left places (more ∷ []) 0 i l

  new_at : slice_index (places ++ more ∷ []) (length places) ≡ more
  new_at = get_or-append_seam places more [] 0

  pub foremost_more : AreForemost bound count (places ++ more ∷ [])
  foremost_more = record {
    within = All-append (λ (place : ℕ). place < count) places (more ∷ []) f.within (All-cons (λ (place : ℕ). place < count) more [] n.within (All-nil (λ (place : ℕ). place < count)));
    ordered = λ i j l m.
        let first : i < length places = omega (arith, length-append places (more ∷ [])) in
        elim (cases_lt j (length places)) [
          | inl k ↦ subst (λ (p : ℕ). Precedes bound p (slice_index (places ++ more ∷ []) j)) (sym (old_at i first)) (subst (λ (p : ℕ). Precedes bound (slice_index places i) p) (sym (old_at j k)) (f.ordered i j l k))
          | inr k ↦
              let last : j ≡ length places = omega (arith, length-append places (more ∷ [])) in
              let at : slice_index (places ++ more ∷ []) j ≡ more = ap (λ (p : ℕ). slice_index (places ++ more ∷ []) p) last ∙ new_at in
              subst (λ (p : ℕ). Precedes bound p (slice_index (places ++ more ∷ []) j)) (sym (old_at i first)) (subst (λ (p : ℕ). Precedes bound (slice_index places i) p) (sym at) (f.others i more first n.within n.fresh))
        ];
    others = λ i place l w out.
        let before : Contains places place → ⊥ = λ c. out (Contains-append_left places (more ∷ []) place c) in
        elim (cases_lt i (length places)) [
          | inl k ↦ subst (λ (p : ℕ). Precedes bound p place) (sym (old_at i k)) (f.others i place k w before)
          | inr k ↦
              let last : i ≡ length places = omega (arith, length-append places (more ∷ [])) in
              let at : slice_index (places ++ more ∷ []) i ≡ more = ap (λ (p : ℕ). slice_index (places ++ more ∷ []) p) last ∙ new_at in
              let other : place ≢ more = λ same. out (Contains-append_right places (more ∷ []) place (0, omega arith, sym same)) in
              subst (λ (p : ℕ). Precedes bound p place) (sym at) (n.first place w before other)
        ];
  }

-- what comes before doesn't come behind
says_once : (x y : Option ℕ) → SaysMore x y → SaysMore y x → ⊥
says_once None None s t = s
says_once None (Some y) s t = t
says_once (Some x) None s t = s
says_once (Some x) (Some y) s t = omega arith

says_itself : (x : Option ℕ) → SaysMore x x → ⊥
says_itself None s = s
says_itself (Some x) s = omega arith

one_way : (bound : ℕ → Option ℕ) (a b : ℕ) → Precedes bound a b → Precedes bound b a → ⊥
one_way bound a b (inl s) (inl t) = says_once (bound a) (bound b) s t
one_way bound a b (inl s) (inr t) = says_itself (bound a) (subst (λ (o : Option ℕ). SaysMore (bound a) o) t.0 s)
one_way bound a b (inr s) (inl t) = says_itself (bound b) (subst (λ (o : Option ℕ). SaysMore (bound b) o) s.0 t)
one_way bound a b (inr s) (inr t) = let l = s.1 in let m = t.1 in omega arith

-- what says more than one that says no less than a third says more than the third
says_on : (x y z : Option ℕ) → SaysMore x y → SaysMore y z ⊎ (y ≡ z) → SaysMore x z
says_on x y z s (inr e) = subst (λ (o : Option ℕ). SaysMore x o) e s
says_on None None z s (inl t) = absurd s
says_on None (Some y) None s (inl t) = absurd t
says_on None (Some y) (Some z) s (inl t) = tt
says_on (Some x) None z s (inl t) = absurd s
says_on (Some x) (Some y) None s (inl t) = absurd t
says_on (Some x) (Some y) (Some z) s (inl t) = omega arith

says_or : (x y : Option ℕ) → (SaysMore x y → ⊥) → SaysMore y x ⊎ (y ≡ x)
says_or None None n = inr refl
says_or None (Some y) n = absurd (n tt)
says_or (Some x) None n = inl tt
says_or (Some x) (Some y) n = elim (cases_lt x y) [
  | inl l ↦ inl l
  | inr m ↦ elim (cases_lt y x) [ inl l ↦ absurd (n l) | inr k ↦ inr (ap Some (omega arith)) ]
]

-- one that says more than another comes before all that the other comes before
precedes_on : (bound : ℕ → Option ℕ) (a b c : ℕ) → SaysMore (bound a) (bound b) → Precedes bound b c → Precedes bound a c
precedes_on bound a b c s (inl t) = inl (says_on (bound a) (bound b) (bound c) s (inl t))
precedes_on bound a b c s (inr t) = inl (says_on (bound a) (bound b) (bound c) s (inr t.0))

module _ (bound : ℕ → Option ℕ) (places : List ℕ) (count : ℕ) where
  -- the next place is one of those
  pub best_passes : (best : Option (ℕ × Option ℕ)) → IsBestSoFar bound places count best → Contains places count → IsBestSoFar bound places (count + 1) best
  best_passes None b c = λ other l. elim (cases_lt other count) [ inl m ↦ b other m | inr m ↦ subst (λ (n : ℕ). Contains places n) (let e : count ≡ other = omega arith in e) c ]
  best_passes (Some best) b c = (
    b.0,
    record {
      within = let l = b.1.within in omega arith;
      fresh = b.1.fresh;
      first = λ other l out ne. elim (cases_lt other count) [
        | inl m ↦ b.1.first other m out ne
        | inr m ↦ absurd (out (subst (λ (n : ℕ). Contains places n) (let e : count ≡ other = omega arith in e) c))
      ];
    },
  )

  -- the next place says more
  pub best_changes : (best : Option (ℕ × Option ℕ)) (here : Option ℕ) → here ≡ bound count → IsBestSoFar bound places count best → (Contains places count → ⊥) → IfSome best (λ b. SaysMore here b.1) → IsBestSoFar bound places (count + 1) (Some (count, here))
  best_changes None here e b out more = (
    e,
    record {
      within = omega arith;
      fresh = out;
      first = λ other l free ne. absurd (free (b other (let n : other ≢ count = ne in omega arith)));
    },
  )
  best_changes (Some best) here e b out more = (
    e,
    record {
      within = omega arith;
      fresh = out;
      first = λ other l free ne.
          let less : other < count = let n : other ≢ count = ne in omega arith in
          let s : SaysMore (bound count) (bound best.0) = subst (λ (o : Option ℕ). SaysMore (bound count) o) b.0 (subst (λ (o : Option ℕ). SaysMore o best.1) e more) in
          best_or best.0 other s (λ n. b.1.first other less free n);
    },
  )
    where
      best_or : (a other : ℕ) → SaysMore (bound count) (bound a) → (other ≢ a → Precedes bound a other) → Precedes bound count other
      best_or a other s first = elim (cases_lt a other) [
        | inl l ↦ precedes_on bound count a other s (first (λ same. omega arith))
        | inr m ↦ elim (cases_lt other a) [
          | inl l ↦ precedes_on bound count a other s (first (λ same. omega arith))
          | inr n ↦ inl (subst (λ (p : ℕ). SaysMore (bound count) (bound p)) (let e : a ≡ other = omega arith in e) s)
        ]
      ]

  -- the next place says no more
  pub best_stays : (best : ℕ × Option ℕ) (here : Option ℕ) → here ≡ bound count → IsBestSoFar bound places count (Some best) → (SaysMore here best.1 → ⊥) → IsBestSoFar bound places (count + 1) (Some best)
  best_stays best here e b not = (
    b.0,
    record {
      within = let l = b.1.within in omega arith;
      fresh = b.1.fresh;
      first = λ other l out ne. elim (cases_lt other count) [
        | inl m ↦ b.1.first other m out ne
        | inr m ↦
            let same : count ≡ other = omega arith in
            let lower : best.0 < count = b.1.within in
            subst (λ (p : ℕ). Precedes bound best.0 p) same (precedes_or best.0 lower (says_or (bound count) (bound best.0) (λ s. not (subst (λ (o : Option ℕ). SaysMore o best.1) (sym e) (subst (λ (o : Option ℕ). SaysMore (bound count) o) (sym b.0) s)))))
      ];
    },
  )
    where
      precedes_or : (a : ℕ) → a < count → SaysMore (bound a) (bound count) ⊎ (bound a ≡ bound count) → Precedes bound a count
      precedes_or a l (inl s) = inl s
      precedes_or a l (inr s) = inr (s, l)

  -- with the test of which it is
  pub best_is_new : (best : Option (ℕ × Option ℕ)) (here : Option ℕ) (better : Bool) → here ≡ bound count → IsBestSoFar bound places count best → (Contains places count → ⊥) → IfSome best (λ b. IsTrue better ↔ SaysMore here b.1) → better ≡ true → IsBestSoFar bound places (count + 1) (Some (count, here))
  best_is_new None here better e b out more t = best_changes None here e b out tt
  best_is_new (Some best) here better e b out more t = best_changes (Some best) here e b out (more.0 t)

  pub best_is_old : (best : Option (ℕ × Option ℕ)) (here : Option ℕ) (better : Bool) → here ≡ bound count → IsBestSoFar bound places count best → IfNone best (IsTrue better) → IfSome best (λ b. IsTrue better ↔ SaysMore here b.1) → better ≡ false → IsBestSoFar bound places (count + 1) best
  best_is_old None here better e b first more f = absurd (let t = first in cc)
  best_is_old (Some best) here better e b first more f = best_stays best here e b (λ s. let t = more.1 s in absurd (cc))

-- where all are among some places, there are no fewer of these
pub all_among : (places : List ℕ) (count : ℕ) → ((place : ℕ) → place < count → Contains places place) → count ≤ length places
all_among places count all = le-length_from_below places count (λ q l. any_of places q (all q l))
  where
    any_of : (xs : List ℕ) (q : ℕ) → Contains xs q → list_any (eqb q) xs ≡ true
    any_of [] q c = absurd (omega (arith, c.1))
    any_of (x ∷ xs) q (zero, l, e) = let t = eq-eqb q x (sym e) in rw t refl
    any_of (x ∷ xs) q (suc k, l, e) = let rest = any_of xs q (k, omega arith, e) in elim (cases_Bool (eqb q x)) [ inl t ↦ rw t refl | inr f ↦ rw (f, rest) refl ]

-- whether a place is among some
is_among : (xs : List ℕ) (y : ℕ) → Contains xs y ⊎ (Contains xs y → ⊥)
is_among [] y = inr (λ c. omega (arith, c.1))
is_among (x ∷ xs) y = elim (cases_eq x y) [
  | inl same ↦ inl (0, omega arith, same)
  | inr other ↦ elim (is_among xs y) [
    | inl c ↦ inl (suc c.0, omega (arith, c.1), c.2)
    | inr n ↦ inr (λ c. elim (Contains-cons_cases x xs y c) [ inl same ↦ other same | inr later ↦ n later ])
  ]
]
  where
    cases_eq : (a b : ℕ) → (a ≡ b) ⊎ (a ≢ b)
    cases_eq a b = elim (cases_lt a b) [ inl l ↦ inr (λ e. omega arith) | inr m ↦ elim (cases_lt b a) [ inl l ↦ inr (λ e. omega arith) | inr n ↦ inl (omega arith) ] ]

place_of : (xs : List ℕ) (y : ℕ) → Contains xs y → (j : ℕ) × (j < length xs) × (slice_index xs j ≡ y)
place_of [] y c = absurd (omega (arith, c.1))
place_of (x ∷ xs) y (zero, l, e) = (0, omega arith, e)
place_of (x ∷ xs) y (suc k, l, e) = let rest = place_of xs y (k, omega arith, e) in (suc rest.0, omega (arith, rest.1), rest.2)

-- the first at which two lists differ comes before the other's
module _ (bound : ℕ → Option ℕ) (count : ℕ) (xs ys : List ℕ) (f : AreForemost bound count xs) (g : AreForemost bound count ys) where
  comes_first : (k : ℕ) → k < length xs → k < length ys → take k xs ≡ take k ys → (slice_index xs k ≡ slice_index ys k) ⊎ Precedes bound (slice_index xs k) (slice_index ys k)
  comes_first k l m same = elim (is_among xs (slice_index ys k)) [
    | inr free ↦ inr (f.others k (slice_index ys k) l (g.within k 0 m) free)
    | inl among ↦
        let at = place_of xs (slice_index ys k) among in
        elim (cases_lt k at.0) [
          | inl later ↦ inr (subst (λ (p : ℕ). Precedes bound (slice_index xs k) p) at.2 (f.ordered k at.0 later at.1))
          | inr upto ↦ elim (cases_lt at.0 k) [
            | inr here ↦ inl (ap (slice_index xs) (let e : k ≡ at.0 = omega arith in e) ∙ at.2)
            | inl before ↦ absurd (
                let there : slice_index ys at.0 ≡ slice_index ys k = sym (get_or-take k ys at.0 0 before) ∙ ap (λ (zs : List ℕ). slice_index zs at.0) (sym same) ∙ get_or-take k xs at.0 0 before ∙ at.2 in
                let p = subst (λ (q : ℕ). Precedes bound q (slice_index ys k)) there (g.ordered at.0 k before m) in
                one_way bound (slice_index ys k) (slice_index ys k) p p)
          ]
        ]
  ]

module _ (bound : ℕ → Option ℕ) (count : ℕ) (xs ys : List ℕ) (f : AreForemost bound count xs) (g : AreForemost bound count ys) where
  same_at : (k : ℕ) → k < length xs → k < length ys → take k xs ≡ take k ys → slice_index xs k ≡ slice_index ys k
  same_at k l m same = elim (comes_first bound count xs ys f g k l m same) [
    | inl e ↦ e
    | inr p ↦ elim (comes_first bound count ys xs g f k m l (sym same)) [
      | inl e ↦ sym e
      | inr q ↦ absurd (one_way bound (slice_index xs k) (slice_index ys k) p q)
    ]
  ]

  same_front : (k : ℕ) → k ≤ length xs → k ≤ length ys → take k xs ≡ take k ys
  same_front zero l m = refl
  same_front (suc k) l m =
      let front : take k xs ≡ take k ys = same_front k (omega arith) (omega arith) in
      let last : slice_index xs k ≡ slice_index ys k = same_at k (omega arith) (omega arith) front in
      take-suc xs k 0 (omega arith) ∙ ap (λ (n : ℕ). take k xs ++ n ∷ []) last ∙ ap (λ (zs : List ℕ). zs ++ slice_index ys k ∷ []) front ∙ sym (take-suc ys k 0 (omega arith))

-- there is one list of active landmarks
pub one_active : (bound : ℕ → Option ℕ) (count : ℕ) (one other : List ℕ) → AreActive bound count one → AreActive bound count other → one ≡ other
one_active bound count one other a b =
    let long = a.size in
    let same = b.size in
    sym (take-length one) ∙ same_front bound count one other a.foremost b.foremost (length one) (omega arith) (omega arith) ∙ take_all (length one) other (omega arith)
