-- The first letter of a word, the two sides of a tag, and small numbers.
use Rattle.std.proofs.Common.{◌≡◌, ◌≢◌, ℕ, ◌<◌, ◌≤◌, ◌^◌, cond, true, false, List, [], ◌∷◌, length, Option, Some, None, Bool, eqb, refl, ap, arith}
use Rattle.std.specs.Option.{MatchOption, option_map}
use Rattle.std.specs.List.{slice_split}
use Rattle.std.proofs.lemmas.Bool.{eqb-true, eq-eqb}
use Rattle.std.proofs.lemmas.List.Splits.{length-slice_split}
use Rattle.std.proofs.Math.Nat.{pow-le-pow_right}
use Rattle.plain_map.specs.Fields.{behind, two_of}
use denote.Ref.{Bor}

no_letter : (t : Bool) (bs : List ℕ) → (t ≡ true → ⊥) → let none : Option (List ℕ) = None in none ≡ cond t (Some bs) None
no_letter true bs h = absurd (h refl)
no_letter false bs h = refl

-- a letter at the front, or none
pub behind_from : (c : ℕ) (bs : List ℕ) (r : Option (Bor (List ℕ))) → MatchOption r ((rest : List ℕ) → bs ≢ c ∷ rest) (λ x. bs ≡ c ∷ x.now) → option_map (λ (t : Bor (List ℕ)). t.now) r ≡ behind c bs
behind_from c [] None h = refl
behind_from c (b ∷ bs) None h = no_letter (eqb b c) bs (λ e. h bs (ap (λ n. n ∷ bs) (eqb-true b c e)))
behind_from c bs (Some x) h = rw (h, eq-eqb c c refl) refl

pub below_power : (n i k : ℕ) → n < 16 ^ i → i ≤ k → n < 16 ^ k
below_power n i k small le =
    let sixteen : 0 < 16 = omega arith in
    let more : 16 ^ i ≤ 16 ^ k = pow-le-pow_right sixteen le in
    omega arith

more_than_two : (a b : List ℕ) (parts : List (List ℕ)) → 0 < length parts → two_of (a ∷ b ∷ parts) ≡ None
more_than_two a b [] h = absurd (omega arith)
more_than_two a b (c ∷ parts) h = refl

-- two cuts leave at least three parts
pub no_two : (p : ℕ → Bool) (a b rest : List ℕ) → two_of (a ∷ b ∷ slice_split p rest) ≡ None
no_two p a b rest = more_than_two a b (slice_split p rest) (omega (arith, length-slice_split p rest))
