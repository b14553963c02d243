-- Fields of other numbers say nothing, and so fields of different numbers may change places.
use Rattle.std.proofs.Common.{◌≡◌, ◌≢◌, ◌∙◌, ℕ, List, [], ◌∷◌, ◌++◌, Bool, true, false, eqb, Option, inl, inr, refl, ap, sym, subst, append_assoc}
use Rattle.std.specs.Prelude.{◌&&◌, ◌==◌, Some, if◌then◌else◌}
use Rattle.std.proofs.lemmas.Bool.{eqb-true, eq-eqb, ne_eqb, cases_Bool}
use Rattle.pbf_wire.specs.declared.fields.Spot.{Spot}
use Rattle.pbf_wire.specs.Lists.{values_of, values_in}
use Rattle.pbf_wire.specs.Pieces.{scalar_of, pieces_of, is_bytes}
use Rattle.pbf_laws.specs.Ordering.{SaySame, FieldsMayBeSwapped, UnknownFieldsSayNothing}

module _ (bytes : List ℕ) (number : ℕ) (field : Spot) (other : field.field.number ≢ number) (back : List Spot) where
  apart : eqb field.field.number number ≡ false
  apart = ne_eqb field.field.number number other

  scalar : (front : List Spot) (found : Option ℕ) → scalar_of number found (front ++ field ∷ back) ≡ scalar_of number found (front ++ back)
  scalar [] found = ap (λ (t : Bool). scalar_of number (if t && field.field.wire == 0 then Some field.field.value else found) back) apart
  scalar (spot ∷ front) found = scalar front (if spot.field.number == number && spot.field.wire == 0 then Some spot.field.value else found)

  pieces : (front : List Spot) → pieces_of number (front ++ field ∷ back) ≡ pieces_of number (front ++ back)
  pieces [] = rw apart refl
  pieces (spot ∷ front) = rw (pieces front) refl

  values : (front : List Spot) → (values_of bytes number (front ++ field ∷ back)).values ≡ (values_of bytes number (front ++ back)).values
  values [] = rw apart refl
  values (spot ∷ front) = ap (λ (vs : List ℕ). (values_in bytes number spot).values ++ vs) (values front)

pub nothing : UnknownFieldsSayNothing
nothing bytes number front field back other = record {
  scalar = scalar bytes number field other back front;
  pieces = pieces bytes number field other back front;
  values = values bytes number field other back front;
}

join : (bytes : List ℕ) (number : ℕ) (a b c : List Spot) → SaySame bytes number a b → SaySame bytes number c b → SaySame bytes number a c
join bytes number a b c h k = record { scalar = λ found. h.scalar found ∙ sym (k.scalar found); pieces = h.pieces ∙ sym k.pieces; values = h.values ∙ sym k.values }

same_back : (bytes : List ℕ) (number : ℕ) (a b : List Spot) → SaySame bytes number a b → SaySame bytes number b a
same_back bytes number a b h = record { scalar = λ found. sym (h.scalar found); pieces = sym h.pieces; values = sym h.values }

-- the first of two is of another number
swap_other : (bytes : List ℕ) (number : ℕ) (front : List Spot) (one two : Spot) (back : List Spot) → one.field.number ≢ number → SaySame bytes number (front ++ one ∷ two ∷ back) (front ++ two ∷ one ∷ back)
swap_other bytes number front one two back other =
    let left = nothing bytes number front one (two ∷ back) other in
    let right = nothing bytes number (front ++ two ∷ []) one back other in
    let moved = subst (λ (xs : List Spot). SaySame bytes number xs ((front ++ two ∷ []) ++ back)) (append_assoc front (two ∷ []) (one ∷ back)) right in
    let moved_too = subst (λ (xs : List Spot). SaySame bytes number (front ++ two ∷ one ∷ back) xs) (append_assoc front (two ∷ []) back) moved in
    join bytes number (front ++ one ∷ two ∷ back) (front ++ two ∷ back) (front ++ two ∷ one ∷ back) left moved_too

not_false : (n : ℕ) → eqb n n ≡ false → ⊥
not_false n e = let k : eqb n n ≡ true = eq-eqb n n refl in cc

pub swapped : FieldsMayBeSwapped
swapped bytes number front one two back differ = elim (cases_Bool (eqb one.field.number number)) [
  | inl t ↦
      let same : one.field.number ≡ number = eqb-true one.field.number number t in
      let other : two.field.number ≢ number = λ e. differ (same ∙ sym e) in
      same_back bytes number (front ++ two ∷ one ∷ back) (front ++ one ∷ two ∷ back) (swap_other bytes number front two one back other)
  | inr f ↦ swap_other bytes number front one two back (λ e. let k : eqb number number ≡ false = subst (λ (n : ℕ). eqb n number ≡ false) e f in absurd (not_false number k))
]
