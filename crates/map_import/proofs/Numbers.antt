-- Towers and their numbers.
use Rattle.std.specs.Ordering.{int_eq}
use Rattle.std.proofs.Common.{◌≡◌, suc, ◌<◌, true, false, ◌||◌, List, [], ◌∷◌, ◌++◌, length, get_or, ℤ, inl, inr, refl, sym, ap, ◌∙◌, arith}
use Rattle.std.proofs.lemmas.Bool.{cases_Bool, false≢true, false_from_ne_true}
use Rattle.std.proofs.lemmas.Bool.Decides.{Decides-int_eq}
use Rattle.map_import.specs.Roads.{number, is_numbered}

pub same_id : (a b : ℤ) → int_eq a b ≡ true → a ≡ b
same_id a b e = (Decides-int_eq a b).0 e

pub id_is_itself : (a : ℤ) → int_eq a a ≡ true
id_is_itself a = (Decides-int_eq a a).1 refl

pub id_swaps : (a b : ℤ) → int_eq a b ≡ int_eq b a
id_swaps a b =
    elim (cases_Bool (int_eq a b)) [
      | inl h ↦ h ∙ sym ((Decides-int_eq b a).1 (sym (same_id a b h)))
      | inr h ↦ h ∙ sym (false_from_ne_true (int_eq b a) (λ t. false≢true (sym h ∙ (Decides-int_eq a b).1 (sym (same_id b a t)))))
    ]

-- a number is one of the list's places
pub number_below : (ids : List ℤ) (id : ℤ) → is_numbered ids id ≡ true → number ids id < length ids
number_below [] id e = absurd (false≢true e)
number_below (x ∷ ids) id e =
    elim (cases_Bool (int_eq id x)) [
      | inl h ↦ rw h (omega arith)
      | inr h ↦
          let there : is_numbered ids id ≡ true = rw h at e in
          let below = number_below ids id there in
          rw h (omega arith)
    ]

-- at the number of an id stands that id
pub at_number : (ids : List ℤ) (id d : ℤ) → is_numbered ids id ≡ true → get_or ids (number ids id) d ≡ id
at_number [] id d e = absurd (false≢true e)
at_number (x ∷ ids) id d e =
    elim (cases_Bool (int_eq id x)) [
      | inl h ↦ rw h (sym (same_id id x h))
      | inr h ↦
          let there : is_numbered ids id ≡ true = rw h at e in
          rw h (at_number ids id d there)
    ]

-- a number stays when there are more
pub number_stays : (ids : List ℤ) (more id : ℤ) → is_numbered ids id ≡ true → number (ids ++ more ∷ []) id ≡ number ids id
number_stays [] more id e = absurd (false≢true e)
number_stays (x ∷ ids) more id e =
    elim (cases_Bool (int_eq id x)) [
      | inl h ↦ rw h refl
      | inr h ↦
          let there : is_numbered ids id ≡ true = rw h at e in
          rw h (ap suc (number_stays ids more id there))
    ]

-- the next number is the length
pub number_next : (ids : List ℤ) (more id : ℤ) → is_numbered ids id ≡ false → int_eq id more ≡ true → number (ids ++ more ∷ []) id ≡ length ids
number_next [] more id e same = rw same refl
number_next (x ∷ ids) more id e same =
    elim (cases_Bool (int_eq id x)) [
      | inl h ↦ let wrong : true ≡ false = rw h at e in absurd (false≢true (sym wrong))
      | inr h ↦
          let there : is_numbered ids id ≡ false = rw h at e in
          rw h (ap suc (number_next ids more id there same))
    ]

pub numbered_push : (ids : List ℤ) (more id : ℤ) → is_numbered (ids ++ more ∷ []) id ≡ (is_numbered ids id || int_eq id more)
numbered_push [] more id = elim (int_eq id more) as (λ b. (b || false) ≡ b) [ true ↦ refl | false ↦ refl ]
numbered_push (x ∷ ids) more id =
    elim (int_eq id x) as (λ b. (b || is_numbered (ids ++ more ∷ []) id) ≡ ((b || is_numbered ids id) || int_eq id more)) [
      | true ↦ refl
      | false ↦ numbered_push ids more id
    ]
