-- How the notes of a seat stay notes of its log's cells, and what two seats' notes tell of each other.
use Rattle.std.proofs.Common.{◌≡◌, ℕ, ◌+◌, ◌<◌, ◌≤◌, List, [], ◌∷◌, ◌++◌, length, get_or, ap, sym, ◌∙◌, arith, length-append}
use Rattle.std.proofs.lemmas.Grind.{common_steps, get_or-set_at}
use Rattle.std.proofs.Math.ListN.{set, length-set}
use Rattle.std.specs.declared.option.Option.TheVariants.{Some}
use Rattle.once_cell.specs.declared.race.note.Note.{Note}
use Rattle.traffic_core.specs.declared.entry.Entry.{Entry}
use Rattle.traffic_share.specs.Notes.{AreNotesOf, Know, Keeps}

-- one more note
pub notes_push : (cells : List ℕ) (k : ℕ) (notes : List (Note Entry)) (n : Note Entry) → AreNotesOf cells k notes
    → ((d : ℕ) → n.cell ≡ get_or cells k d) → AreNotesOf cells (k + 1) (notes ++ n ∷ [])
notes_push cells k notes n kept is = record {
  len = omega (arith, length-append notes (n ∷ []), kept.len);
  named = λ i m d below. grind (arith, common_steps, kept.len, kept.named i m d, is d);
}

-- no entry is known yet
pub know_none : (notes : List (Note Entry)) → Know notes []
know_none notes = record { fits = omega arith; known = λ i n e below. absurd (omega arith) }

-- a note behind the list is written: the list's notes stay
pub keeps_note : (cells : List ℕ) (notes : List (Note Entry)) (es : List Entry) (i : ℕ) (n : Note Entry) → Keeps cells notes es
    → length es ≤ i → i < length cells → ((d : ℕ) → n.cell ≡ get_or cells i d) → Keeps cells (set notes i n) es
keeps_note cells notes es i n kept behind below is = record {
  of_cells = record {
    len = omega (arith, length-set notes i n, kept.of_cells.len);
    named = λ j m d h. grind (arith, common_steps, kept.of_cells.len, kept.of_cells.named j m d h, is d);
  };
  knowing = record {
    fits = omega (arith, length-set notes i n, kept.knowing.fits);
    known = λ j m e h. grind (arith, common_steps, kept.knowing.known j m e h);
  };
}

-- the note behind the list knows the entry that is added
pub keeps_push : (cells : List ℕ) (notes : List (Note Entry)) (es : List Entry) (e : Entry) → Keeps cells notes es
    → length es < length cells → ((m : Note Entry) → (get_or notes (length es) m).known ≡ Some e) → Keeps cells notes (es ++ e ∷ [])
keeps_push cells notes es e kept room is = record {
  of_cells = kept.of_cells;
  knowing = record {
    fits = omega (arith, length-append es (e ∷ []), kept.of_cells.len);
    known = λ j m d h. grind (arith, common_steps, kept.knowing.known j m d, is m, length-append es (e ∷ []));
  };
}

-- the note that was read is one of the cell that was read
pub note_at : (cells : List ℕ) (notes : List (Note Entry)) (es : List Entry) (i : ℕ) (n : Note Entry) (x : ℕ) → Keeps cells notes es
    → i < length cells → n ≡ get_or notes i n → ((d : ℕ) → x ≡ get_or cells i d) → n.cell ≡ x
note_at cells notes es i n x kept below at is = ap (λ m. m.cell) at ∙ kept.of_cells.named i n 0 below ∙ sym (is 0)

-- the cell behind the list was read, and its entry taken
pub keeps_taken : (cells : List ℕ) (notes : List (Note Entry)) (es : List Entry) (i : ℕ) (n m : Note Entry) (e : Entry) → Keeps cells notes es
    → i ≡ length es → i < length cells → n ≡ get_or notes i n → m.cell ≡ n.cell → m.known ≡ Some e → Keeps cells (set notes i m) (es ++ e ∷ [])
keeps_taken cells notes es i n m e kept here below at same knows =
    let names : (d : ℕ) → m.cell ≡ get_or cells i d = λ d. same ∙ ap (λ k. k.cell) at ∙ kept.of_cells.named i n d below in
    let noted = keeps_note cells notes es i m kept (omega arith) below names in
    keeps_push cells (set notes i m) es e noted (omega arith) (λ k. ap (λ k. k.known) (get_or-set_at notes i (length es) m k (sym here) (omega (arith, kept.of_cells.len))) ∙ knows)

-- notes of one place, of two seats, are of one cell
pub same_cell : (cells cells' : List ℕ) (notes others : List (Note Entry)) (es fs : List Entry) (i : ℕ) (n m : Note Entry) → Keeps cells notes es → Keeps cells' others fs
    → cells ≡ cells' → i < length cells → n ≡ get_or notes i n → m ≡ get_or others i m → m.cell ≡ n.cell
same_cell cells cells' notes others es fs i n m kept kept' one below at at' =
    let here : n.cell ≡ get_or cells i 0 = ap (λ k. k.cell) at ∙ kept.of_cells.named i n 0 below in
    let there : m.cell ≡ get_or cells' i 0 = ap (λ k. k.cell) at' ∙ kept'.of_cells.named i m 0 (rw (← one) below) in
    there ∙ ap (λ cs. get_or cs i 0) (sym one) ∙ sym here

-- the note and the entry of another seat of the log were taken
pub keeps_copied : (cells cells' : List ℕ) (notes others : List (Note Entry)) (es fs : List Entry) (i : ℕ) (n : Note Entry) (e : Entry) → Keeps cells notes es → Keeps cells' others fs
    → cells ≡ cells' → i ≡ length es → i < length fs → n ≡ get_or others i n → ((d : Entry) → get_or fs i d ≡ e) → Keeps cells (set notes i n) (es ++ e ∷ [])
keeps_copied cells cells' notes others es fs i n e kept kept' one here below at is =
    let inside : i < length cells = omega (arith, ap length one, kept'.of_cells.len, kept'.knowing.fits) in
    let inside' : i < length cells' = omega (arith, ap length one) in
    let names : (d : ℕ) → n.cell ≡ get_or cells i d = λ d. ap (λ k. k.cell) at ∙ kept'.of_cells.named i n d inside' ∙ ap (λ cs. get_or cs i d) (sym one) in
    let knows : n.known ≡ Some e = ap (λ k. k.known) at ∙ kept'.knowing.known i n e below ∙ ap (λ x. Some x) (is e) in
    let noted = keeps_note cells notes es i n kept (omega arith) inside names in
    keeps_push cells (set notes i n) es e noted (omega arith) (λ k. ap (λ k. k.known) (get_or-set_at notes i (length es) n k (sym here) (omega (arith, kept.of_cells.len))) ∙ knows)
