-- The first hop that is wanted.
use Rattle.std.proofs.Common.{◌≡◌, ℕ, Bool, true, false, cond, List, [], ◌∷◌, ◌++◌, refl, ap, ◌∙◌, inl, inr}
use Rattle.std.specs.Prelude.{map}
use Rattle.std.proofs.lemmas.Bool.{cases_Bool}
use Rattle.gh_base.specs.declared.edges.Hop.{Hop}
use Rattle.gh_base.specs.Networks.{wanted_from}

-- a hop that is not wanted is passed over
pub wanted_later : (P : ℕ → Bool) (xs : List Hop) (hop : Hop) (ys : List Hop) → xs ≡ hop ∷ ys → P hop.to.0 ≡ true → wanted_from P xs ≡ wanted_from P ys
wanted_later P xs hop ys e t = ap (wanted_from P) e ∙ ap (λ b. cond b (wanted_from P ys) (hop ∷ ys)) t

-- one that is wanted is the first
pub wanted_here : (P : ℕ → Bool) (xs : List Hop) (hop : Hop) (ys : List Hop) → xs ≡ hop ∷ ys → P hop.to.0 ≡ false → wanted_from P xs ≡ hop ∷ ys
wanted_here P xs hop ys e f = ap (wanted_from P) e ∙ ap (λ b. cond b (wanted_from P ys) (hop ∷ ys)) f

-- in two lists it is the first of the one, else that of the other
pub wanted_of_first : (P : ℕ → Bool) (xs ys : List Hop) (hop : Hop) (rest : List Hop) → wanted_from P xs ≡ hop ∷ rest → wanted_from P (xs ++ ys) ≡ hop ∷ (rest ++ ys)
wanted_of_first P [] ys hop rest e = absurd (cc)
wanted_of_first P (x ∷ xs) ys hop rest e = elim (cases_Bool (P x.to.0)) [
  | inl t ↦ rw t (wanted_of_first P xs ys hop rest (rw t at e))
  | inr f ↦ rw f (ap (λ (zs : List Hop). zs ++ ys) (rw f at e))
]

pub wanted_of_second : (P : ℕ → Bool) (xs ys : List Hop) → wanted_from P xs ≡ [] → wanted_from P (xs ++ ys) ≡ wanted_from P ys
wanted_of_second P [] ys e = refl
wanted_of_second P (x ∷ xs) ys e = elim (cases_Bool (P x.to.0)) [
  | inl t ↦ rw t (wanted_of_second P xs ys (rw t at e))
  | inr f ↦ absurd (let g = rw f at e in cc)
]

-- hops that keep their heads are wanted as before
pub wanted_map : (P : ℕ → Bool) (f : Hop → Hop) → ((hop : Hop) → (f hop).to.0 ≡ hop.to.0) → (xs : List Hop) → wanted_from P (map f xs) ≡ map f (wanted_from P xs)
wanted_map P f same [] = refl
wanted_map P f same (x ∷ xs) = elim (cases_Bool (P x.to.0)) [
  | inl t ↦ let s : P (f x).to.0 ≡ true = ap P (same x) ∙ t in rw (s, t) (wanted_map P f same xs)
  | inr g ↦ let s : P (f x).to.0 ≡ false = ap P (same x) ∙ g in rw (s, g) refl
]
