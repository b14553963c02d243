-- Sums that have 64 bits, and a list that grows before what is left.
use Rattle.std.specs.Prelude.{FitsSigned}
use Rattle.std.specs.Int.{int_wrap, w64}
use Rattle.std.specs.Ordering.{int_eq}
use Rattle.std.specs.Option.{SomeIff}
use Rattle.std.proofs.Common.{◌≡◌, ℤ, Bool, true, false, List, [], ◌∷◌, ◌++◌, Option, Some, None, refl, sym, subst, ap, ◌∙◌, inl, inr, append_assoc}
use Rattle.std.proofs.lemmas.Bool.{cases_Bool}
use Rattle.std.proofs.lemmas.Bool.Decides.{Decides-int_eq}
use Rattle.std.proofs.lemmas.Int.{int_wrap_fits, SFits-int_wrap}
use Rattle.turn_texts.specs.Restricting.{◌>>=◌}
use Rattle.turn_pbf.specs.PbfRelations.{fitting}

pub sum_fits : (r : Option ℤ) (z : ℤ) → SomeIff r (FitsSigned w64 z) z → r ≡ fitting z
sum_fits (Some x) z is =
    let t : int_eq (int_wrap w64 z) z ≡ true = (Decides-int_eq (int_wrap w64 z) z).1 (int_wrap_fits w64 z is.0) in
    rw t (ap (λ (i : ℤ). Some i) is.1)
sum_fits None z is = elim (cases_Bool (int_eq (int_wrap w64 z) z)) [
  | inl t ↦ absurd (is (subst (λ (i : ℤ). FitsSigned w64 i) ((Decides-int_eq (int_wrap w64 z) z).0 t) (SFits-int_wrap w64 z)))
  | inr f ↦ rw f refl
]

abbrev pub with_front : {A : Type 0} → List A → Option (List A) → Option (List A)
with_front front None = None
with_front front (Some rest) = Some (front ++ rest)

pub some_more : {A : Type 0} (front : List A) (x : A) (read : Option (List A)) → with_front (front ++ x ∷ []) read ≡ with_front front (read >>= λ rest. Some (x ∷ rest))
some_more front x (Some rest) = ap Some (append_assoc front (x ∷ []) rest)
some_more front x None = refl

pub some_nil : {A : Type 0} (read : Option (List A)) → with_front [] read ≡ read
some_nil (Some rest) = refl
some_nil None = refl
