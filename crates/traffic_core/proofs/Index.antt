-- A number for each id of a list, one id after another.
use Rattle.std.specs.Ordering.{int_eq}
use Rattle.std.proofs.Common.{◌≡◌, ℕ, ◌+◌, ◌<◌, ◌⊎◌, cond, List, ℤ, [], ◌∷◌, ◌++◌, length, take, get_or, Option, Some, None, IsSome, slice_get, zero, suc, inl, inr, refl, sym, ap, ◌∙◌, arith}
use Rattle.std.proofs.lemmas.Bool.{cases_Bool, false≢true}
use Rattle.std.proofs.lemmas.Bool.Decides.{Decides-int_eq}
use Rattle.std.proofs.lemmas.List.{take_more, length-take-le}
use Rattle.std.proofs.lemmas.Option.{slice_get_within}
use Rattle.map_import.proofs.Numbers.{same_id}
use Rattle.traffic_core.specs.Lands.{IsIndexOf}

get_front : (xs : List ℤ) (k : ℤ) (n : ℕ) (x : ℤ) → slice_get xs n ≡ Some x → slice_get (xs ++ k ∷ []) n ≡ Some x
get_front [] k n x e = absurd (omega (arith, slice_get_within [] n x e))
get_front (y ∷ xs) k zero x e = e
get_front (y ∷ xs) k (suc n) x e = get_front xs k n x e

get_last : (xs : List ℤ) (k : ℤ) → slice_get (xs ++ k ∷ []) (length xs) ≡ Some k
get_last [] k = refl
get_last (y ∷ xs) k = get_last xs k

get_cases : (xs : List ℤ) (k : ℤ) (n : ℕ) (x : ℤ) → slice_get (xs ++ k ∷ []) n ≡ Some x → (slice_get xs n ≡ Some x) ⊎ (k ≡ x)
get_cases [] k zero x e = inr cc
get_cases [] k (suc n) x e = absurd (omega (arith, slice_get_within [] n x e))
get_cases (y ∷ xs) k zero x e = inl e
get_cases (y ∷ xs) k (suc n) x e = get_cases xs k n x e

some_of : {A : Type 0} (o : Option A) (x : A) → o ≡ Some x → IsSome o
some_of o x e = rw e refl

-- one more id, behind the others
push_index : (xs : List ℤ) (k : ℤ) (f g : ℤ → Option ℕ) → IsIndexOf xs f → ((id : ℤ) → g id ≡ cond (int_eq k id) (Some (length xs)) (f id)) → IsIndexOf (xs ++ k ∷ []) g
push_index xs k f g before after = record {
  found = λ id number e. elim (cases_Bool (int_eq k id)) [
    | inl t ↦
        let s : Some (length xs) ≡ Some number = sym (rw t at (after id)) ∙ e in
        let same : length xs ≡ number = cc in
        rw (← same, ← same_id k id t) (get_last xs k)
    | inr n ↦ get_front xs k number id (before.found id number (sym (rw n at (after id)) ∙ e))
  ];
  each = λ id number e. elim (cases_Bool (int_eq k id)) [
    | inl t ↦ some_of (g id) (length xs) (rw t at (after id))
    | inr n ↦
        let old : g id ≡ f id = rw n at (after id) in
        elim (get_cases xs k number id e) [
          | inl h ↦ rw old (before.each id number h)
          | inr same ↦ absurd (false≢true (sym n ∙ (Decides-int_eq k id).1 same))
        ]
  ];
}

pub index_more : (ids : List ℤ) (i : ℕ) (id : ℤ) (f g : ℤ → Option ℕ) → i < length ids → id ≡ get_or ids i id → IsIndexOf (take i ids) f
    → ((q : ℤ) → g q ≡ cond (int_eq id q) (Some i) (f q)) → IsIndexOf (take (i + 1) ids) g
index_more ids i id f g h e before after =
    let taken : take (i + 1) ids ≡ take i ids ++ id ∷ [] = take_more ids i id h ∙ ap (λ (n : ℤ). take i ids ++ n ∷ []) (sym e) in
    let count : length (take i ids) ≡ i = length-take-le i ids (omega arith) in
    rw taken (push_index (take i ids) id f g before (rw count after))

-- what an index tells of an id
pub told : (ids : List ℤ) (f : ℤ → Option ℕ) (id key : ℤ) (number : ℕ) → key ≡ id → IsIndexOf ids f → Some number ≡ f key → slice_get ids number ≡ Some id
told ids f id key number same index e = index.found id number (ap f (sym same) ∙ sym e)

pub told_none : (ids : List ℤ) (f : ℤ → Option ℕ) (id key : ℤ) → key ≡ id → IsIndexOf ids f → None ≡ f key → (number : ℕ) → slice_get ids number ≡ Some id → ⊥
told_none ids f id key same index e number h =
    let none : f id ≡ None = ap f (sym same) ∙ sym e in
    let some : IsSome (f id) = index.each id number h in
    absurd (false≢true (rw none at some))
