-- The parts of a text, joined again.
use Rattle.std.proofs.Common.{◌≡◌, ℕ, ◌≤◌, ◌<◌, List, [], ◌∷◌, length, Option, Some, None, Err, arith, refl, ap, ◌∙◌, eqb}
use Rattle.std.specs.List.{slice_split, join_with_byte}
use Rattle.std.proofs.lemmas.List.Splits.{length-slice_split, join_with_byte-slice_split}
use Rattle.gh_base.specs.Parts.{parts_of}
use Rattle.gh_base.specs.declared.kinds.ScriptKind.TheVariants.{Word}
use Rattle.script_text.specs.LineReading.{rest_of, last_of}
use Rattle.script_text.specs.Fields.{point_of}

rest_is : (at : ℕ) (words : List (List ℕ)) → 0 < length words → rest_of at words ≡ Some (at, join_with_byte 32 words)
rest_is at [] some = absurd (omega arith)
rest_is at (word ∷ words) some = refl

-- the rest of a line as it stands
pub rest_is_text : (at : ℕ) (text : List ℕ) → rest_of at (parts_of 32 text) ≡ Some (at, text)
rest_is_text at text =
    let some : 0 < length (parts_of 32 text) = omega (arith, length-slice_split (λ b. eqb b 32) text) in
    rest_is at (parts_of 32 text) some ∙ ap (λ t. Some (at, t)) (join_with_byte-slice_split 32 text)

more_than_two : (a b : List ℕ) (parts : List (List ℕ)) → 0 < length parts → point_of (a ∷ b ∷ parts) ≡ None
more_than_two a b [] h = absurd (omega arith)
more_than_two a b (c ∷ parts) h = refl

-- two cuts leave at least three parts
pub no_two : (a b text : List ℕ) → point_of (a ∷ b ∷ parts_of 44 text) ≡ None
no_two a b text = more_than_two a b (parts_of 44 text) (omega (arith, length-slice_split (λ b. eqb b 44) text))

last_is : (at : ℕ) (words : List (List ℕ)) → 0 < length words → last_of at words ≡ Err (at, Word)
last_is at [] some = absurd (omega arith)
last_is at (word ∷ words) some = refl

-- a text that is left, also an empty one, is a word more
pub one_more_word : (at : ℕ) (text : List ℕ) → last_of at (parts_of 32 text) ≡ Err (at, Word)
one_more_word at text = last_is at (parts_of 32 text) (omega (arith, length-slice_split (λ b. eqb b 32) text))
