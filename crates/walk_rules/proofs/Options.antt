-- Cases of an option, and what a list with one more element contains.
use Rattle.std.proofs.Common.{◌≡◌, ◌⊎◌, Option, Some, None, IsSome, List, ◌∷◌, Contains, refl, inl, inr, zero, suc, arith}

pub some_or_none : {A : Type 0} (o : Option A) → ((x : A) × (o ≡ Some x)) ⊎ (o ≡ None)
some_or_none None = inr refl
some_or_none (Some x) = inl (x, refl)

pub some_of : {A : Type 0} (o : Option A) → IsSome o → (x : A) × (o ≡ Some x)
some_of None h = absurd (cc)
some_of (Some x) h = (x, refl)

pub Contains-cons_cases : {A : Type 0} (y : A) (xs : List A) (x : A) → Contains (y ∷ xs) x → (y ≡ x) ⊎ Contains xs x
Contains-cons_cases y xs x (zero, l, e) = inl e
Contains-cons_cases y xs x (suc k, l, e) = inr (k, omega arith, e)
