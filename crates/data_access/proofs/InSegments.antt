-- Words in segments: where a word stands, and segments of 0 behind others.
use Rattle.std.proofs.Common.{◌≡◌, ℕ, zero, suc, ◌+◌, ◌-◌, ◌*◌, ◌/◌, ◌%◌, ◌<◌, List, [], ◌∷◌, ◌++◌, length, get_or, set, replicate, sym, ap, ◌∙◌, arith, length-append, length-set}
use Rattle.std.specs.Prelude.{All}
use Rattle.std.proofs.lemmas.Grind.{same_number_lists}
use Rattle.std.proofs.lemmas.List.{get_or_append_left, get_or-append_right, get_or_read, set-append_left, set-append_right, get_or-replicate, length-replicate}
use Rattle.std.proofs.lemmas.List.Concat.{flat_map-append}
use Rattle.std.proofs.lemmas.List.Elements.{All-append, All-head, All-tail, All-nil, All-set}
use Rattle.data_access.specs.Words.{words_in}

-- segments of so many words
abbrev Full : ℕ → List (List ℕ) → Type 0
Full n segments = All (λ (words : List ℕ). length words ≡ n) segments

abbrev Zero : List ℕ → Type 0
Zero words = All (λ (word : ℕ). word ≡ 0) words

head_full : (n : ℕ) (s : List ℕ) (ss : List (List ℕ)) → Full n (s ∷ ss) → length s ≡ n
head_full n s ss full = All-head (λ (words : List ℕ). length words ≡ n) s ss full

tail_full : (n : ℕ) (s : List ℕ) (ss : List (List ℕ)) → Full n (s ∷ ss) → Full n ss
tail_full n s ss full = All-tail (λ (words : List ℕ). length words ≡ n) s ss full

pub length-words_in : (n : ℕ) (segments : List (List ℕ)) → Full n segments → length (words_in segments) ≡ n * length segments
length-words_in n [] full = omega arith
length-words_in n (s ∷ ss) full =
    let here = head_full n s ss full in
    let rest = length-words_in n ss (tail_full n s ss full) in
    omega (arith, length-append s (words_in ss))

-- a word by its segment and its place there
pub get_or-words_in : (n : ℕ) (segments : List (List ℕ)) (i j : ℕ) → Full n segments → i < length segments → j < n → get_or (words_in segments) (n * i + j) 0 ≡ get_or (get_or segments i []) j 0
get_or-words_in n [] i j full l inside = absurd (omega arith)
get_or-words_in n (s ∷ ss) zero j full l inside =
    let here = head_full n s ss full in
    ap (λ (m : ℕ). get_or (s ++ words_in ss) m 0) (omega arith) ∙ get_or_append_left s (words_in ss) 0 j (omega arith)
get_or-words_in n (s ∷ ss) (suc i) j full l inside =
    get_or-append_right s (words_in ss) n (n * suc i + j) 0 (head_full n s ss full) (omega arith)
    ∙ (ap (λ (m : ℕ). get_or (words_in ss) m 0) (omega arith) ∙ get_or-words_in n ss i j (tail_full n s ss full) (omega arith) inside)

-- a word is set in its segment
pub set-words_in : (n : ℕ) (segments : List (List ℕ)) (i j word : ℕ) → Full n segments → i < length segments → j < n → words_in (set segments i (set (get_or segments i []) j word)) ≡ set (words_in segments) (n * i + j) word
set-words_in n [] i j word full l inside = absurd (omega arith)
set-words_in n (s ∷ ss) zero j word full l inside =
    let here = head_full n s ss full in
    sym (ap (λ (m : ℕ). set (s ++ words_in ss) m word) (omega arith) ∙ set-append_left s (words_in ss) j word (omega arith))
set-words_in n (s ∷ ss) (suc i) j word full l inside =
    ap (λ (ws : List ℕ). s ++ ws) (set-words_in n ss i j word (tail_full n s ss full) (omega arith) inside)
    ∙ sym (set-append_right s (words_in ss) n (n * suc i + j) word (head_full n s ss full) (omega arith)
    ∙ ap (λ (m : ℕ). s ++ set (words_in ss) m word) (omega arith))

zero_words : (segments : List (List ℕ)) → All Zero segments → Zero (words_in segments)
zero_words [] blank = All-nil (λ (word : ℕ). word ≡ 0)
zero_words (s ∷ ss) blank = All-append (λ (word : ℕ). word ≡ 0) s (words_in ss) (All-head Zero s ss blank) (zero_words ss (All-tail Zero s ss blank))

replicate_zero : (words : List ℕ) → Zero words → words ≡ replicate (length words) 0
replicate_zero words blank =
    same_number_lists words (replicate (length words) 0) (sym (length-replicate (length words) 0))
    (λ k l. blank k 0 l ∙ sym (get_or-replicate (length words) k 0 0 l))

-- segments of 0 behind others are words 0 behind theirs
pub words_in-zero : (old more : List (List ℕ)) → All Zero more → words_in (old ++ more) ≡ words_in old ++ replicate (length (words_in (old ++ more)) - length (words_in old)) 0
words_in-zero old more blank =
    let whole = flat_map-append (λ (words : List ℕ). words) old more in
    let count : length (words_in more) ≡ length (words_in (old ++ more)) - length (words_in old) =
    omega (arith, ap length whole, length-append (words_in old) (words_in more)) in
    whole ∙ ap (λ (ws : List ℕ). words_in old ++ ws) (replicate_zero (words_in more) (zero_words more blank) ∙ ap (λ (m : ℕ). replicate m 0) count)

-- a word's segment is there
pub segment_below : (segments : List (List ℕ)) (words : List ℕ) (index : ℕ) → Full 262144 segments → words_in segments ≡ words → index < length words → index / 262144 < length segments
segment_below segments words index full is l = omega (arith, length-words_in 262144 segments full, ap length is)

-- and is full
pub segment_long : (segments : List (List ℕ)) (i : ℕ) (segment : List ℕ) → Full 262144 segments → i < length segments → segment ≡ get_or segments i segment → length segment ≡ 262144
segment_long segments i segment full l is = ap length is ∙ full i segment l

-- a word by its index
pub word_there : (segments : List (List ℕ)) (words segment : List ℕ) (index word : ℕ) → Full 262144 segments → words_in segments ≡ words → index < length words → segment ≡ get_or segments (index / 262144) segment → word ≡ get_or segment (index % 262144) word
    → word ≡ get_or words index 0
word_there segments words segment index word full is l there found =
    let i = index / 262144 in
    let j = index % 262144 in
    let below : i < length segments = segment_below segments words index full is l in
    let long : length segment ≡ 262144 = segment_long segments i segment full below there in
    let place : 262144 * i + j ≡ index = omega arith in
    let here : segment ≡ get_or segments i [] = get_or_read segments i segment below there [] in
    get_or_read segment j word (omega arith) found 0
    ∙ (ap (λ (s : List ℕ). get_or s j 0) here
    ∙ (sym (get_or-words_in 262144 segments i j full below (omega arith))
    ∙ (ap (λ (n : ℕ). get_or (words_in segments) n 0) place ∙ ap (λ (ws : List ℕ). get_or ws index 0) is)))

-- a word that is set by its index
pub word_set : (segments : List (List ℕ)) (words segment : List ℕ) (index word : ℕ) → Full 262144 segments → words_in segments ≡ words → index < length words → segment ≡ get_or segments (index / 262144) segment
    → words_in (set segments (index / 262144) (set segment (index % 262144) word)) ≡ set words index word
word_set segments words segment index word full is l there =
    let i = index / 262144 in
    let j = index % 262144 in
    let below : i < length segments = segment_below segments words index full is l in
    let place : 262144 * i + j ≡ index = omega arith in
    let here : segment ≡ get_or segments i [] = get_or_read segments i segment below there [] in
    ap (λ (s : List ℕ). words_in (set segments i (set s j word))) here
    ∙ (set-words_in 262144 segments i j word full below (omega arith)
    ∙ (ap (λ (n : ℕ). set (words_in segments) n word) place ∙ ap (λ (ws : List ℕ). set ws index word) is))

-- segments stay full
pub full_set : (segments : List (List ℕ)) (i j word : ℕ) (segment : List ℕ) → Full 262144 segments → length segment ≡ 262144 → Full 262144 (set segments i (set segment j word))
full_set segments i j word segment full long = All-set (λ (words : List ℕ). length words ≡ 262144) segments i (set segment j word) (length-set segment j word ∙ long) full
