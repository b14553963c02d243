-- Towers and pieces: each tower has an id of its own, which is an end of a piece, and a way whose nodes are all towers is cut into neighbours.
use Rattle.std.specs.Ordering.{int_eq}
use Rattle.std.proofs.Common.{◌≡◌, ℕ, ℤ, zero, suc, ◌+◌, ◌<◌, ◌≤◌, Bool, true, cond, List, [], ◌∷◌, ◌++◌, length, map, get_or, Option, Some, None, Result, Ok, Contains, refl, sym, ap, subst, ◌∙◌, inl, inr, arith, zero-add}
use Rattle.std.specs.Prelude.{fold}
use Rattle.std.specs.List.{AllByRecursion, IsDistinct, flat_map, range_with_len}
use Rattle.std.proofs.lemmas.Bool.{cases_Bool}
use Rattle.std.proofs.lemmas.Cmp.{int_eq_equiv}
use Rattle.std.proofs.lemmas.List.FromFn.{get_or-map-range_with_len, length-map-range_with_len}
use Rattle.std.proofs.lemmas.Map.Keys.{IsDistinct-push}
use Rattle.map_import.specs.declared.faults.ImportFault.{ImportFault}
use Rattle.map_import.specs.Refusals.{Laid, unless}
use Rattle.map_import.specs.Roads.{cut_from, is_numbered, with_tower}
use Rattle.map_import.proofs.Built.{has_number, keeps_numbered}

pub none_distinct : IsDistinct int_eq []
unfolding IsDistinct
none_distinct = tt

distinct_more : (ids : List ℤ) (id : ℤ) → IsDistinct int_eq ids → IsDistinct int_eq (with_tower ids id)
distinct_more ids id distinct = elim (cases_Bool (is_numbered ids id)) [
  | inl t ↦ subst (λ b. IsDistinct int_eq (cond b ids (ids ++ id ∷ []))) (sym t) distinct
  | inr f ↦ subst (λ b. IsDistinct int_eq (cond b ids (ids ++ id ∷ []))) (sym f) (IsDistinct-push int_eq_equiv ids id distinct f)
]

pub distinct_fold : (more ids : List ℤ) → IsDistinct int_eq ids → IsDistinct int_eq (fold with_tower ids more)
distinct_fold [] ids distinct = distinct
distinct_fold (x ∷ more) ids distinct = distinct_fold more (with_tower ids x) (distinct_more ids x distinct)

stays_numbered : (more ids : List ℤ) (id : ℤ) → is_numbered ids id ≡ true → is_numbered (fold with_tower ids more) id ≡ true
stays_numbered [] ids id is = is
stays_numbered (x ∷ more) ids id is = stays_numbered more (with_tower ids x) id (keeps_numbered ids x id is)

pub numbered_fold : (more ids : List ℤ) (id : ℤ) → Contains more id → is_numbered (fold with_tower ids more) id ≡ true
numbered_fold [] ids id has = absurd (omega (arith, has.1))
numbered_fold (x ∷ more) ids id (zero, below, is) = stays_numbered more (with_tower ids x) id (subst (λ (y : ℤ). is_numbered (with_tower ids x) y ≡ true) is (has_number ids x))
numbered_fold (x ∷ more) ids id (suc k, below, is) = numbered_fold more (with_tower ids x) id (k, omega arith, is)

pub each_append : {X : Type 0} (P : X → Type 0) (xs ys : List X) → AllByRecursion P xs → AllByRecursion P ys → AllByRecursion P (xs ++ ys)
each_append P [] ys first second = second
each_append P (x ∷ xs) ys first second = (first.0, each_append P xs ys first.1 second)

each_more : (P : ℤ → Type 0) (ids : List ℤ) (id : ℤ) → AllByRecursion P ids → P id → AllByRecursion P (with_tower ids id)
each_more P ids id each is = elim (cases_Bool (is_numbered ids id)) [
  | inl t ↦ subst (λ b. AllByRecursion P (cond b ids (ids ++ id ∷ []))) (sym t) each
  | inr f ↦ subst (λ b. AllByRecursion P (cond b ids (ids ++ id ∷ []))) (sym f) (each_append P ids (id ∷ []) each (is, tt))
]

pub each_fold : (P : ℤ → Type 0) (more ids : List ℤ) → AllByRecursion P ids → AllByRecursion P more → AllByRecursion P (fold with_tower ids more)
each_fold P [] ids each all = each
each_fold P (x ∷ more) ids each all = each_fold P more (with_tower ids x) (each_more P ids x each all.0) all.1

pub each_flat : {X Y : Type 0} (P : Y → Type 0) (f : X → List Y) (xs : List X) → AllByRecursion (λ (x : X). AllByRecursion P (f x)) xs → AllByRecursion P (flat_map f xs)
each_flat P f [] each = tt
each_flat P f (x ∷ xs) each = each_append P (f x) (flat_map f xs) each.0 (each_flat P f xs each.1)

pub each_map : {X Y : Type 0} (P : Y → Type 0) (f : X → Y) (xs : List X) → AllByRecursion (λ (x : X). P (f x)) xs → AllByRecursion P (map f xs)
each_map P f [] each = tt
each_map P f (x ∷ xs) each = (each.0, each_map P f xs each.1)

pub each_range : {X : Type 0} (P : X → Type 0) (f : ℕ → X) (a k : ℕ) → ((i : ℕ) → a ≤ i → i < a + k → P (f i)) → AllByRecursion P (map f (range_with_len a k))
each_range P f a zero each = tt
each_range P f a (suc k) each = (each a (omega arith) (omega arith), each_range P f (a + 1) k (λ i low below. each i (omega arith) (omega arith)))

pub each_at : {X : Type 0} (P : X → Type 0) (xs : List X) (k : ℕ) (d : X) → AllByRecursion P xs → k < length xs → P (get_or xs k d)
each_at P [] k d each below = absurd (omega arith)
each_at P (x ∷ xs) zero d each below = each.0
each_at P (x ∷ xs) (suc k) d each below = each_at P xs k d each.1 (omega arith)

contains_front : {X : Type 0} (xs ys : List X) (y : X) → Contains xs y → Contains (xs ++ ys) y
contains_front [] ys y has = absurd (omega (arith, has.1))
contains_front (x ∷ xs) ys y (zero, below, is) = (zero, omega arith, is)
contains_front (x ∷ xs) ys y (suc k, below, is) = let rest = contains_front xs ys y (k, omega arith, is) in (suc rest.0, let h = rest.1 in omega arith, rest.2)

contains_back : {X : Type 0} (xs ys : List X) (y : X) → Contains ys y → Contains (xs ++ ys) y
contains_back [] ys y has = has
contains_back (x ∷ xs) ys y has = let rest = contains_back xs ys y has in (suc rest.0, let h = rest.1 in omega arith, rest.2)

pub contains_flat : {X Y : Type 0} (f : X → List Y) (xs : List X) (x : X) (y : Y) → Contains xs x → Contains (f x) y → Contains (flat_map f xs) y
contains_flat f [] x y has here = absurd (omega (arith, has.1))
contains_flat f (z ∷ xs) x y (zero, below, is) here = contains_front (f z) (flat_map f xs) y (subst (λ w. Contains (f w) y) (sym is) here)
contains_flat f (z ∷ xs) x y (suc k, below, is) here = contains_back (f z) (flat_map f xs) y (contains_flat f xs x y (k, omega arith, is) here)

pub contains_range : {X : Type 0} (f : ℕ → X) (n k : ℕ) → k < n → Contains (map f (range_with_len 0 n)) (f k)
contains_range f n k below = (k, omega (arith, length-map-range_with_len f 0 n), get_or-map-range_with_len f 0 n k k (f k) below (zero-add k))

-- neighbours, where all are towers
pub pairs_from : (tower : ℤ → Bool) (f : ℕ → ℤ) (a k : ℕ) → ((i : ℕ) → a < i → i < a + 1 + k → tower (f i) ≡ true) →
    cut_from tower (f a ∷ []) (map f (range_with_len (a + 1) k)) ≡ map (λ i. f i ∷ f (i + 1) ∷ []) (range_with_len a k)
pairs_from tower f a zero each = refl
pairs_from tower f a (suc k) each =
    rw (each (a + 1) (omega arith) (omega arith)) (ap (λ (l : List (List ℤ)). (f a ∷ f (a + 1) ∷ []) ∷ l) (pairs_from tower f (a + 1) k (λ i low below. each i (omega arith) (omega arith))))

-- what isn't refused
pub unless_laid : (o : Option ImportFault) (r : Result Laid ImportFault) (laid : Laid) → unless o r ≡ Ok laid → r ≡ Ok laid
unless_laid None r laid is = is
unless_laid (Some e) r laid is = absurd cc

-- a list without one of its items
pub record IsWithout (xs : List ℕ) (a : ℕ) : Type 0 where
  pub rest : List ℕ
  pub less : length xs ≡ length rest + 1
  pub has : (b : ℕ) → (a ≡ b → ⊥) → Contains xs b → Contains rest b

pub without : (xs : List ℕ) (a : ℕ) → Contains xs a → IsWithout xs a
without [] a has = absurd (omega (arith, has.1))
without (x ∷ xs) a (zero, below, is) = record {
  rest = xs;
  less = omega arith;
  has = λ b other at. later x xs a b is other at;
} where
  later : (x : ℕ) (xs : List ℕ) (a b : ℕ) → x ≡ a → (a ≡ b → ⊥) → Contains (x ∷ xs) b → Contains xs b
  later x xs a b is other (zero, low, same) = absurd (other (sym is ∙ same))
  later x xs a b is other (suc k, low, same) = (k, omega arith, same)
without (x ∷ xs) a (suc k, below, is) =
    let more = without xs a (k, omega arith, is) in
    record {
      rest = x ∷ more.rest;
      less = let e = more.less in omega arith;
      has = λ b other at. with_first x xs more.rest b (λ has. more.has b other has) at;
    } where
      with_first : (x : ℕ) (xs ys : List ℕ) (b : ℕ) → (Contains xs b → Contains ys b) → Contains (x ∷ xs) b → Contains (x ∷ ys) b
      with_first x xs ys b keeps (zero, low, same) = (zero, omega arith, same)
      with_first x xs ys b keeps (suc j, low, same) = let rest = keeps (j, omega arith, same) in (suc rest.0, let h = rest.1 in omega arith, rest.2)
