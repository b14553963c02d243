-- What is left of a list after its first.
use Rattle.std.proofs.Common.{◌≡◌, List, ◌∷◌, Contains, suc, refl, sym, subst, arith}

pub contains_first : {A : Type 0} {xs rest : List A} {x : A} → xs ≡ x ∷ rest → Contains xs x
contains_first {A} {xs} {rest} {x} e = subst (λ (ys : List A). Contains ys x) (sym e) (0, omega arith, refl)

pub contains_rest : {A : Type 0} {xs rest : List A} {x : A} → xs ≡ x ∷ rest → (y : A) → Contains rest y → Contains xs y
contains_rest {A} {xs} {rest} {x} e y c = subst (λ (ys : List A). Contains ys y) (sym e) (suc c.0, omega (arith, c.1), c.2)
