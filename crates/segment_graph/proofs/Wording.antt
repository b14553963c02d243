-- Words in bytes: where a word stands, and what a write does to the list.
use Rattle.std.proofs.Common.{◌≡◌, ◌≢◌, ℕ, ◌+◌, ◌-◌, ◌*◌, ◌<◌, ◌≤◌, ◌⊎◌, List, ◌++◌, length, get_or, set, take, drop, replicate, inl, inr, refl, sym, ap, ◌∙◌, arith, length-append, length-set, length-take, length-drop}
use Rattle.std.specs.Int.{w32, to_le_bytes, from_le_bytes}
use Rattle.std.proofs.lemmas.Bool.{cases_eq, cases_lt, cases_order}
use Rattle.std.proofs.lemmas.List.{get_or_append_left, get_or-append_right, get_or-set_same, get_or-set_other, take-append-le, drop-append-le}
use Rattle.std.proofs.lemmas.List.FromFn.{take-map-range_with_len}
use Rattle.data_access.specs.Bytes.{GrowsByZeros, bytes_with, u32_at}
use Rattle.segment_graph.specs.Words.{words_of}
use Rattle.segment_graph.proofs.Listing.{length-numbered, get_or-numbered, by_number}

abbrev word : List ℕ → ℕ → ℕ
word bytes index = u32_at bytes (4 * index)

pub words_len : (bytes words : List ℕ) (len : ℕ) → words_of bytes len ≡ words → len ≡ length words
words_len bytes words len is = sym (length-numbered (word bytes) len) ∙ ap length is

pub word_there : (bytes words : List ℕ) (len index found : ℕ) → words_of bytes len ≡ words → index < length words → found ≡ u32_at bytes (4 * index) → found ≡ get_or words index 0
word_there bytes words len index found is l e =
    e ∙ (sym (get_or-numbered (word bytes) len index 0 (omega (arith, words_len bytes words len is))) ∙ ap (λ (ws : List ℕ). get_or ws index 0) is)

pub apart : (k index : ℕ) → k ≢ index → (4 * k + 4 ≤ 4 * index) ⊎ (4 * index + 4 ≤ 4 * k)
apart k index other = elim (cases_order k index) [
  | inl e ↦ absurd (other e)
  | inr q ↦ elim q [ inl less ↦ inl (omega arith) | inr more ↦ inr (omega arith) ]
]

-- a word is set
pub word_set : (bytes new words : List ℕ) (len index value : ℕ) → words_of bytes len ≡ words → index < length words → u32_at new (4 * index) ≡ value
    → ((other : ℕ) → (other + 4 ≤ 4 * index) ⊎ (4 * index + 4 ≤ other) → u32_at new other ≡ u32_at bytes other)
    → words_of new len ≡ set words index value
word_set bytes new words len index value is l read others =
    by_number (word new) (set words index value) len 0 (length-set words index value ∙ sym (words_len bytes words len is))
    (λ k b. elim (cases_eq k index) [
      | inl e ↦
          ap (λ (j : ℕ). get_or (set words index value) j 0) e
          ∙ (get_or-set_same words index value 0 l ∙ sym (ap (word new) e ∙ read))
      | inr other ↦
          get_or-set_other words index k value 0 other
          ∙ (sym (ap (λ (ws : List ℕ). get_or ws k 0) is)
          ∙ (get_or-numbered (word bytes) len k 0 b ∙ sym (others (4 * k) (apart k index other))))
    ])

-- bytes in which a word is set are as many
pub length-bytes_with : (bytes new : List ℕ) (at value : ℕ) → new ≡ bytes_with bytes at (to_le_bytes w32 value) → at + 4 ≤ length bytes → length new ≡ length bytes
length-bytes_with bytes new at value e l =
    let others = to_le_bytes w32 value in
    let four : length others ≡ 4 = refl in
    let rest = drop (at + length others) bytes in
    omega (arith, ap length e, length-append (take at bytes ++ others) rest, length-append (take at bytes) others, length-take at bytes, length-drop (at + length others) bytes)

-- bytes that come behind leave a word as it was
same_word : (bytes grown : List ℕ) (at : ℕ) → GrowsByZeros bytes grown → at + 4 ≤ length bytes → u32_at grown at ≡ u32_at bytes at
same_word bytes grown at e l =
    let more : List ℕ = replicate (length grown - length bytes) 0 in
    let enough : at + 4 - at ≤ length (drop at bytes) = omega (arith, length-drop at bytes) in
    ap (λ (bs : List ℕ). u32_at bs at) e
    ∙ ap (from_le_bytes w32) (ap (take (at + 4 - at)) (drop-append-le at bytes more (omega arith)) ∙ take-append-le (at + 4 - at) (drop at bytes) more enough)

-- words are put behind
pub words_added : (bytes grown new words row : List ℕ) (len : ℕ) → words_of bytes len ≡ words → 4 * len ≤ length bytes → GrowsByZeros bytes grown
    → ((k : ℕ) → k < length row → u32_at new (4 * (len + k)) ≡ get_or row k 0)
    → ((k : ℕ) → k < len → u32_at new (4 * k) ≡ u32_at grown (4 * k))
    → words_of new (len + length row) ≡ words ++ row
words_added bytes grown new words row len is inside more put before =
    let long = words_len bytes words len is in
    by_number (word new) (words ++ row) (len + length row) 0 (omega (arith, length-append words row))
    (λ k b. elim (cases_lt k len) [
      | inl l ↦
          get_or_append_left words row 0 k (omega arith)
          ∙ (sym (ap (λ (ws : List ℕ). get_or ws k 0) is)
          ∙ (get_or-numbered (word bytes) len k 0 l ∙ sym (before k l ∙ same_word bytes grown (4 * k) more (omega arith))))
      | inr l ↦
          let place : len + (k - len) ≡ k = omega arith in
          get_or-append_right words row len k 0 (sym long) l
          ∙ (sym (put (k - len) (omega arith)) ∙ ap (word new) place)
    ])

-- words are forgotten
pub words_cut : (bytes words : List ℕ) (len cut : ℕ) → words_of bytes len ≡ words → cut ≤ length words → words_of bytes cut ≡ take cut words
words_cut bytes words len cut is l =
    sym (ap (take cut) (sym is) ∙ take-map-range_with_len (word bytes) 0 len cut (omega (arith, words_len bytes words len is)))
