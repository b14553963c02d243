use Rattle.std.proofs.Common.{◌≡◌, ℕ, ◌+◌, ◌*◌, ◌/◌, ◌%◌, eqb, List, get_or, inl, inr, ap, ◌∙◌, arith}
use Rattle.std.proofs.lemmas.Bool.{cases_eq, eq-eqb, ne_eqb}
use Rattle.segment_graph.specs.Rows.{row_of, next_on}
use Rattle.segment_graph.proofs.rows.next_in.Goals as goal

-- the links of a row are the words 3 and 4
next_word : (words : List ℕ) (half : ℕ) → get_or words (8 * (half / 2) + 3 + half % 2) 0 ≡ next_on (eqb (half % 2) 1) (row_of words (half / 2))
next_word words half = elim (cases_eq (half % 2) 1) [
  | inl e ↦ rw (eq-eqb (half % 2) 1 e) (ap (λ (n : ℕ). get_or words n 0) (omega arith))
  | inr other ↦ rw (ne_eqb (half % 2) 1 other) (ap (λ (n : ℕ). get_or words n 0) (omega arith))
]

pub returns : goal.returns
returns c = c.get.ensures ∙ next_word c.args.words.now c.args.half
