-- Rows in words: a row that is put behind others, and one that is read.
use Rattle.std.proofs.Common.{◌≡◌, ℕ, ◌+◌, ◌*◌, ◌≤◌, List, [], ◌∷◌, ◌++◌, length, get_or, refl, ap, ◌∙◌, arith, length-append}
use Rattle.std.proofs.lemmas.List.{get_or_append_left, get_or-append-add}
use Rattle.segment_graph.specs.declared.row.EdgeRow.{EdgeRow}
use Rattle.segment_graph.specs.Rows.{row_of, rows_of}
use Rattle.segment_graph.proofs.Listing.{numbered_push}

-- a word behind others
behind : (words more : List ℕ) (at i : ℕ) → at ≡ length words + i → get_or (words ++ more) at 0 ≡ get_or more i 0
behind words more at i e = ap (λ (n : ℕ). get_or (words ++ more) n 0) e ∙ get_or-append-add words more i 0

old_row : (words more : List ℕ) (edge : ℕ) → 8 * edge + 8 ≤ length words → row_of (words ++ more) edge ≡ row_of words edge
old_row words more edge l = λ i. record {
  base = record { 0 = get_or_append_left words more 0 (8 * edge) (omega arith) i };
  adjacent = record { 0 = get_or_append_left words more 0 (8 * edge + 1) (omega arith) i };
  mm = get_or_append_left words more 0 (8 * edge + 2) (omega arith) i;
  next_at_base = get_or_append_left words more 0 (8 * edge + 3) (omega arith) i;
  next_at_adjacent = get_or_append_left words more 0 (8 * edge + 4) (omega arith) i;
  first_point = get_or_append_left words more 0 (8 * edge + 5) (omega arith) i;
  end_point = get_or_append_left words more 0 (8 * edge + 6) (omega arith) i;
}

-- the words of a row
abbrev pub words_in_row : EdgeRow → List ℕ
words_in_row row = row.base.0 ∷ row.adjacent.0 ∷ row.mm ∷ row.next_at_base ∷ row.next_at_adjacent ∷ row.first_point ∷ row.end_point ∷ 0 ∷ []

new_row : (words : List ℕ) (edge : ℕ) (row : EdgeRow) → length words ≡ 8 * edge → row_of (words ++ words_in_row row) edge ≡ row
new_row words edge row l = λ i. record {
  base = record { 0 = behind words (words_in_row row) (8 * edge) 0 (omega arith) i };
  adjacent = record { 0 = behind words (words_in_row row) (8 * edge + 1) 1 (omega arith) i };
  mm = behind words (words_in_row row) (8 * edge + 2) 2 (omega arith) i;
  next_at_base = behind words (words_in_row row) (8 * edge + 3) 3 (omega arith) i;
  next_at_adjacent = behind words (words_in_row row) (8 * edge + 4) 4 (omega arith) i;
  first_point = behind words (words_in_row row) (8 * edge + 5) 5 (omega arith) i;
  end_point = behind words (words_in_row row) (8 * edge + 6) 6 (omega arith) i;
}

pub row_pushed : (words new : List ℕ) (count : ℕ) (rows : List EdgeRow) (row : EdgeRow) → rows_of words count ≡ rows → length words ≡ 8 * count → new ≡ words ++ words_in_row row
    → rows_of new (count + 1) ≡ rows ++ row ∷ []
row_pushed words new count rows row is l e =
    ap (λ (ws : List ℕ). rows_of ws (count + 1)) e
    ∙ numbered_push (row_of words) (row_of (words ++ words_in_row row)) count rows row is
    (λ k b. old_row words (words_in_row row) k (omega arith))
    (new_row words count row l)

pub row_longer : (words new : List ℕ) (count : ℕ) (row : EdgeRow) → length words ≡ 8 * count → new ≡ words ++ words_in_row row → length new ≡ 8 * (count + 1)
row_longer words new count row l e =
    let eight : length (words_in_row row) ≡ 8 = refl in
    omega (arith, ap length e, length-append words (words_in_row row))
