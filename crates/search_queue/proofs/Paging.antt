-- Pages of numbers, where a block is given one.
use Rattle.std.proofs.Common.{◌≡◌, ◌≢◌, ℕ, ◌+◌, ◌*◌, ◌/◌, ◌%◌, ◌<◌, ◌≤◌, ◌^◌, ◌++◌, List, length, replicate, vec_capacity, sym, ap, ◌∙◌, inl, inr, arith, length-append, length-set}
use Rattle.std.specs.Prelude.{slice_index, slice_set}
use Rattle.std.proofs.lemmas.Bool.{cases_eq, cases_lt}
use Rattle.std.proofs.lemmas.List.{get_or-set_same, get_or-set_other, get_or_append_left, get_or-append-add, get_or-replicate, length-replicate}
use Rattle.search_queue.specs.declared.pages.Pages.{Pages}
use Rattle.search_queue.specs.Pages.{number_in, IsPaged}
use Rattle.search_queue.proofs.Pigeons.{fewer}

-- a page is given while some block has none
pub more_room : (pages : Pages) (block : ℕ) → IsPaged pages → block < length pages.starts.items → slice_index pages.starts.items block ≡ 0 → pages.count < length pages.starts.items
more_room pages block h l none =
    fewer (length pages.starts.items) pages.count (slice_index pages.starts.items) h.owned block l none

-- pages that nothing was written to
pub begun : (pages : Pages) (blocks : ℕ) → blocks < 2 ^ 31 → pages.starts.items ≡ replicate blocks 0 → pages.words.items ≡ replicate 1024 0 → pages.count ≡ 0 → 1024 * (blocks + 1) ≤ vec_capacity pages.words → IsPaged pages × ((node : ℕ) → node / 1024 < blocks → number_in pages node ≡ 0)
begun pages blocks few starts words count room = (
  record {
    few = omega (arith, many);
    long = omega (arith, ap length words, length-replicate {A = ℕ} 1024 0);
    within = λ b l. let s = start b (omega (arith, many)) in omega arith;
    apart = λ one other i j same some. absurd (some (start one (omega (arith, many))));
    owned = λ page l. absurd (omega arith);
    blank = word;
    room = omega (arith, many);
  },
  λ node l.
      let s = start (node / 1024) l in
      ap (slice_index pages.words.items) (let at : 1024 * slice_index pages.starts.items (node / 1024) + node % 1024 ≡ node % 1024 = omega arith in at) ∙ word (node % 1024) (omega arith),
) where
  many : length pages.starts.items ≡ blocks
  many = ap length starts ∙ length-replicate blocks 0

  start : (b : ℕ) → b < blocks → slice_index pages.starts.items b ≡ 0
  start b l = ap (λ (ys : List ℕ). slice_index ys b) starts ∙ get_or-replicate blocks b 0 0 l

  word : (i : ℕ) → i < 1024 → slice_index pages.words.items i ≡ 0
  word i l = ap (λ (ys : List ℕ). slice_index ys i) words ∙ get_or-replicate 1024 i 0 0 l

module _ (pages new : Pages) (block : ℕ) (h : IsPaged pages) (l : block < length pages.starts.items) (none : slice_index pages.starts.items block ≡ 0) (words : new.words.items ≡ pages.words.items ++ replicate 1024 0) (starts : new.starts.items ≡ slice_set pages.starts.items block (pages.count + 1)) (count : new.count ≡ pages.count + 1) (capacity : vec_capacity new.words ≡ vec_capacity pages.words) where
  blocks : length new.starts.items ≡ length pages.starts.items
  blocks = ap length starts ∙ length-set pages.starts.items block _

  here : slice_index new.starts.items block ≡ pages.count + 1
  here = ap (λ (xs : List ℕ). slice_index xs block) starts ∙ get_or-set_same pages.starts.items block (pages.count + 1) 0 l

  elsewhere : (other : ℕ) → other ≢ block → slice_index new.starts.items other ≡ slice_index pages.starts.items other
  elsewhere other ne = ap (λ (xs : List ℕ). slice_index xs other) starts ∙ get_or-set_other pages.starts.items block other (pages.count + 1) 0 ne

  old_word : (i : ℕ) → i < length pages.words.items → slice_index new.words.items i ≡ slice_index pages.words.items i
  old_word i b = ap (λ (xs : List ℕ). slice_index xs i) words ∙ get_or_append_left pages.words.items (replicate 1024 0) 0 i b

  new_word : (i : ℕ) → i < 1024 → slice_index new.words.items (length pages.words.items + i) ≡ 0
  new_word i b = ap (λ (xs : List ℕ). slice_index xs (length pages.words.items + i)) words ∙ (get_or-append-add pages.words.items (replicate 1024 0) i 0 ∙ get_or-replicate 1024 i 0 0 b)

  pub grown_paged : IsPaged new
  grown_paged = record {
    few = omega (arith, blocks, h.few);
    long = omega (arith, ap length words, length-append pages.words.items (replicate 1024 0), length-replicate {A = ℕ} 1024 0, h.long);
    within = λ b i. elim (cases_eq b block) [
      | inl e ↦ let at = here in let s = ap (slice_index new.starts.items) e in omega arith
      | inr ne ↦ let at = elsewhere b ne in let w = h.within b (omega (arith, blocks)) in omega arith
    ];
    apart = λ one other i j same some. elim (cases_eq one block) [
      | inl e ↦ elim (cases_eq other block) [
        | inl d ↦ omega arith
        | inr d ↦ absurd (let at = here in let s = ap (slice_index new.starts.items) e in let t = elsewhere other d in let w = h.within other (omega (arith, blocks)) in omega arith)
      ]
      | inr e ↦ elim (cases_eq other block) [
        | inl d ↦ absurd (let at = here in let s = ap (slice_index new.starts.items) d in let t = elsewhere one e in let w = h.within one (omega (arith, blocks)) in omega arith)
        | inr d ↦ let s = elsewhere one e in let t = elsewhere other d in h.apart one other (omega (arith, blocks)) (omega (arith, blocks)) (omega arith) (omega arith)
      ]
    ];
    owned = λ page i. elim (cases_lt page pages.count) [
      | inl lt ↦
          let o = h.owned page lt in
          let ne : o.0 ≢ block = λ e. let s = ap (slice_index pages.starts.items) e in let t = o.2 in omega arith in
          (o.0, omega (arith, o.1, blocks), elsewhere o.0 ne ∙ o.2)
      | inr ge ↦ (block, omega (arith, blocks), omega (arith, here))
    ];
    blank = λ i b. old_word i (omega (arith, h.long)) ∙ h.blank i b;
    room = omega (arith, blocks, capacity, h.room);
  }

  pub grown_same : (node : ℕ) → node / 1024 < length pages.starts.items → number_in new node ≡ number_in pages node
  grown_same node b = elim (cases_eq (node / 1024) block) [
    | inl e ↦
        let at = ap (slice_index new.starts.items) e ∙ here in
        let was = ap (slice_index pages.starts.items) e ∙ none in
        let rest : node % 1024 < 1024 = omega arith in
        let now : slice_index new.words.items (1024 * slice_index new.starts.items (node / 1024) + node % 1024) ≡ 0 = ap (slice_index new.words.items) (let g = h.long in omega arith) ∙ new_word (node % 1024) rest in
        let before : slice_index pages.words.items (1024 * slice_index pages.starts.items (node / 1024) + node % 1024) ≡ 0 = ap (slice_index pages.words.items) (omega arith) ∙ h.blank (node % 1024) rest in
        now ∙ sym before
    | inr ne ↦
        let at = elsewhere (node / 1024) ne in
        let w = h.within (node / 1024) b in
        let rest : node % 1024 < 1024 = omega arith in
        ap (slice_index new.words.items) (omega arith) ∙ old_word (1024 * slice_index pages.starts.items (node / 1024) + node % 1024) (omega (arith, h.long))
  ]

-- a word is written on a page that some block has
pub written_paged : (pages new : Pages) (at number : ℕ) → IsPaged pages → 1024 ≤ at → new.starts.items ≡ pages.starts.items → new.words.items ≡ slice_set pages.words.items at number → new.count ≡ pages.count → vec_capacity new.words ≡ vec_capacity pages.words → IsPaged new
written_paged pages new at number h later starts words count capacity = record {
  few = omega (arith, many, h.few);
  long = omega (arith, ap length words, length-set pages.words.items at number, h.long);
  within = λ b l. let s = start b in let w = h.within b (omega (arith, many)) in omega arith;
  apart = λ one other i j same some. let s = start one in let t = start other in h.apart one other (omega (arith, many)) (omega (arith, many)) (omega arith) (λ e. some (s ∙ e));
  owned = λ page l. let o = h.owned page (omega arith) in (o.0, omega (arith, o.1, many), start o.0 ∙ o.2);
  blank = λ i l. ap (λ (ys : List ℕ). slice_index ys i) words ∙ (get_or-set_other pages.words.items at i number 0 (λ e. omega arith) ∙ h.blank i l);
  room = omega (arith, many, capacity, h.room);
} where
  many : length new.starts.items ≡ length pages.starts.items
  many = ap length starts

  start : (b : ℕ) → slice_index new.starts.items b ≡ slice_index pages.starts.items b
  start b = ap (λ (ys : List ℕ). slice_index ys b) starts
