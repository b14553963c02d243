-- The two sides of a mark.
use Rattle.std.proofs.Common.{◌≡◌, ℕ, ◌<◌, eqb, List, [], ◌∷◌, length, Some, refl, ap, ◌∙◌, arith}
use Rattle.std.specs.List.{slice_split, join_with_byte}
use Rattle.std.proofs.lemmas.List.Splits.{length-slice_split, join_with_byte-slice_split}
use Rattle.turn_texts.specs.PlainRelations.{sides_of}

two_sides : (first : List ℕ) (parts : List (List ℕ)) → 0 < length parts → sides_of (first ∷ parts) ≡ Some (first, join_with_byte 64 parts)
two_sides first [] l = absurd (omega arith)
two_sides first (part ∷ parts) l = refl

-- what stands behind the first mark is the rest
pub sides_more : (first rest : List ℕ) → sides_of (first ∷ slice_split (λ b. eqb b 64) rest) ≡ Some (first, rest)
sides_more first rest =
    two_sides first (slice_split (λ b. eqb b 64) rest) (omega (arith, length-slice_split (λ b. eqb b 64) rest))
    ∙ ap (λ (r : List ℕ). Some (first, r)) (join_with_byte-slice_split 64 rest)
