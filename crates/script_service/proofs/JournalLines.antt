-- The text of a journal grows entry by entry.
use Rattle.std.proofs.Common.{◌≡◌, ℕ, ◌+◌, ◌<◌, List, [], ◌∷◌, ◌++◌, length, get_or, slice_get, take, codes, decimal, sym, ap, ◌∙◌, arith, append_assoc, append-nil, Some, length-take}
use Rattle.std.proofs.lemmas.List.{take_more}
use Rattle.std.proofs.lemmas.Option.{get_or_from_slice_get, slice_get_within}
use Rattle.weighting.specs.declared.profile.Profile.{Profile}
use Rattle.traffic_core.specs.declared.entry.Entry.{Entry}
use Rattle.script_service.specs.Writing.{entry_text, entries_text}

-- the journal's first line, and a text behind it
abbrev pub headed : ℕ → List ℕ → List ℕ
headed count text = codes "journal " ++ (decimal count ++ (10 ∷ text))

headed-append : (count : ℕ) (text line : List ℕ) → headed count text ++ line ≡ headed count (text ++ line)
headed-append count text line =
    append_assoc (codes "journal ") (decimal count ++ (10 ∷ text)) line ∙
    ap (λ (l : List ℕ). codes "journal " ++ l) (append_assoc (decimal count) (10 ∷ text) line)

module _ (names : List (List ℕ)) (profiles : List Profile) where
  entries_push : (before : ℕ) (xs : List Entry) (entry : Entry) →
      entries_text names profiles before (xs ++ entry ∷ []) ≡ entries_text names profiles before xs ++ entry_text names profiles (before + length xs + 1) entry
  entries_push before [] entry =
      let place : before + 1 ≡ before + length {A = Entry} [] + 1 = omega arith in
      append-nil (entry_text names profiles (before + 1) entry) ∙ ap (λ (n : ℕ). entry_text names profiles n entry) place
  entries_push before (x ∷ xs) entry =
      let place : before + 1 + length xs + 1 ≡ before + length (x ∷ xs) + 1 = omega arith in
      ap (λ (l : List ℕ). entry_text names profiles (before + 1) x ++ l) (entries_push (before + 1) xs entry) ∙
      sym (append_assoc (entry_text names profiles (before + 1) x) (entries_text names profiles (before + 1) xs) (entry_text names profiles (before + 1 + length xs + 1) entry)) ∙
      ap (λ (n : ℕ). entries_text names profiles before (x ∷ xs) ++ entry_text names profiles n entry) place

  entries_more : (journal : List Entry) (i : ℕ) (entry : Entry) → i < length journal → get_or journal i entry ≡ entry →
      entries_text names profiles 0 (take (i + 1) journal) ≡ entries_text names profiles 0 (take i journal) ++ entry_text names profiles (i + 1) entry
  entries_more journal i entry below is =
      let place : 0 + length (take i journal) + 1 ≡ i + 1 = omega (arith, length-take i journal) in
      ap (entries_text names profiles 0) (take_more journal i entry below ∙ ap (λ (e : Entry). take i journal ++ e ∷ []) is) ∙
      entries_push 0 (take i journal) entry ∙
      ap (λ (n : ℕ). entries_text names profiles 0 (take i journal) ++ entry_text names profiles n entry) place

  -- one entry more
  pub journal_more : (journal : List Entry) (i : ℕ) (entry : Entry) (count : ℕ) (text new : List ℕ) →
      slice_get journal i ≡ Some entry → text ≡ headed count (entries_text names profiles 0 (take i journal)) → new ≡ text ++ entry_text names profiles (i + 1) entry →
      new ≡ headed count (entries_text names profiles 0 (take (i + 1) journal))
  journal_more journal i entry count text new is so_far more =
      more ∙ ap (λ (l : List ℕ). l ++ entry_text names profiles (i + 1) entry) so_far ∙
      headed-append count (entries_text names profiles 0 (take i journal)) (entry_text names profiles (i + 1) entry) ∙
      ap (headed count) (sym (entries_more journal i entry (slice_get_within journal i entry is) (get_or_from_slice_get journal i entry entry is)))
