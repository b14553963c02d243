-- Words and their bytes: which bytes are a word's or a half's, and what a word that is set does to them.
use Rattle.std.proofs.Common.{◌≡◌, ℕ, zero, suc, ◌+◌, ◌-◌, ◌*◌, ◌/◌, ◌%◌, ◌^◌, ◌<◌, ◌≤◌, max, List, [], ◌∷◌, ◌++◌, length, get_or, set, take, drop, replicate, refl, sym, ap, ◌∙◌, arith, length-append}
use Rattle.std.specs.Prelude.{slice_range}
use Rattle.std.specs.Int.{w16, w32, to_le_bytes, from_le_bytes, div_ceil, next_multiple_of}
use Rattle.std.proofs.lemmas.List.Concat.{flat_map-append}
use Rattle.std.proofs.lemmas.Nat.{from_le_bytes-to_le_bytes_2, from_le_bytes-to_le_bytes_4}
use Rattle.data_access.specs.Bytes.{bytes_of, bytes_with}

pub length-bytes_of : (words : List ℕ) → length (bytes_of words) ≡ 4 * length words
length-bytes_of [] = refl
length-bytes_of (w ∷ ws) = let rest = length-bytes_of ws in omega arith

-- what is read at a place of a word is read there in its own bytes
read_in : (words : List ℕ) (k p m : ℕ) (found : List ℕ) → k < length words
    → ((rest : List ℕ) → take m (drop p (to_le_bytes w32 (get_or words k 0) ++ rest)) ≡ found)
    → take m (drop (4 * k + p) (bytes_of words)) ≡ found
read_in [] k p m found l here = absurd (omega arith)
read_in (w ∷ ws) zero p m found l here =
    ap (λ (n : ℕ). take m (drop n (bytes_of (w ∷ ws)))) (omega arith) ∙ here (bytes_of ws)
read_in (w ∷ ws) (suc k) p m found l here =
    let place : 4 * suc k + p ≡ suc (suc (suc (suc (4 * k + p)))) = omega arith in
    ap (λ (n : ℕ). take m (drop n (bytes_of (w ∷ ws)))) place ∙ read_in ws k p m found (omega arith) here

-- bytes with others behind the first four
with_behind : (a b c d : ℕ) (rest : List ℕ) (at from : ℕ) (others : List ℕ) → at ≡ suc (suc (suc (suc from)))
    → bytes_with (a ∷ b ∷ c ∷ d ∷ rest) at others ≡ a ∷ b ∷ c ∷ d ∷ bytes_with rest from others
with_behind a b c d rest at from others place =
    let end : at + length others ≡ suc (suc (suc (suc (from + length others)))) = omega arith in
    ap (λ (n : ℕ). take n (a ∷ b ∷ c ∷ d ∷ rest) ++ others ++ drop (at + length others) (a ∷ b ∷ c ∷ d ∷ rest)) place
    ∙ ap (λ (n : ℕ). a ∷ b ∷ c ∷ d ∷ (take from rest ++ others ++ drop n (a ∷ b ∷ c ∷ d ∷ rest))) end

-- a word that is set changes what it changes of its own bytes
write_in : (words : List ℕ) (k word p : ℕ) (others : List ℕ) → k < length words
    → ((rest : List ℕ) → to_le_bytes w32 word ++ rest ≡ bytes_with (to_le_bytes w32 (get_or words k 0) ++ rest) p others)
    → bytes_of (set words k word) ≡ bytes_with (bytes_of words) (4 * k + p) others
write_in [] k word p others l here = absurd (omega arith)
write_in (w ∷ ws) zero word p others l here =
    here (bytes_of ws) ∙ ap (λ (n : ℕ). bytes_with (bytes_of (w ∷ ws)) n others) (omega arith)
write_in (w ∷ ws) (suc k) word p others l here =
    ap (λ (bytes : List ℕ). to_le_bytes w32 w ++ bytes) (write_in ws k word p others (omega arith) here)
    ∙ sym (with_behind _ _ _ _ (bytes_of ws) (4 * suc k + p) (4 * k + p) others (omega arith))

four : (a b c d a' b' c' d' : ℕ) (rest : List ℕ) → a ≡ a' → b ≡ b' → c ≡ c' → d ≡ d' → a ∷ b ∷ c ∷ d ∷ rest ≡ a' ∷ b' ∷ c' ∷ d' ∷ rest
four a b c d a' b' c' d' rest p q r s = cc

-- the index of a byte's word
pub below : (words bytes : List ℕ) (at : ℕ) → bytes_of words ≡ bytes → at + 2 ≤ length bytes → at / 4 < length words
below words bytes at is l = omega (arith, length-bytes_of words, ap length is)

range_of : (bytes : List ℕ) (at m : ℕ) → slice_range bytes at (at + m) ≡ take m (drop at bytes)
range_of bytes at m = ap (λ (n : ℕ). take n (drop at bytes)) (omega arith)

pub reads_u32 : (words bytes : List ℕ) (at word : ℕ) → bytes_of words ≡ bytes → at % 4 ≡ 0 → at + 4 ≤ length bytes → word ≡ get_or words (at / 4) 0 → word < 2 ^ 32
    → word ≡ from_le_bytes w32 (slice_range bytes at (at + 4))
reads_u32 words bytes at word is aligned l e fits =
    let inside : at / 4 < length words = below words bytes at is (omega arith) in
    let place : 4 * (at / 4) + 0 ≡ at = omega arith in
    let there : take 4 (drop (4 * (at / 4) + 0) (bytes_of words)) ≡ to_le_bytes w32 (get_or words (at / 4) 0) = read_in words (at / 4) 0 4 _ inside (λ rest. refl) in
    let found : slice_range bytes at (at + 4) ≡ to_le_bytes w32 word =
    range_of bytes at 4 ∙ (ap (λ (bs : List ℕ). take 4 (drop at bs)) (sym is) ∙ (ap (λ (n : ℕ). take 4 (drop n (bytes_of words))) (sym place) ∙ (there ∙ ap (to_le_bytes w32) (sym e)))) in
    sym (ap (from_le_bytes w32) found ∙ from_le_bytes-to_le_bytes_4 word fits)

low_half : (w : ℕ) → to_le_bytes w16 (w % 65536) ≡ take 2 (to_le_bytes w32 w)
low_half w =
    let a : w % 65536 % 256 ≡ w % 256 = omega arith in
    let b : w % 65536 / 256 % 256 ≡ w / 256 % 256 = omega arith in
    cc

high_half : (w : ℕ) → to_le_bytes w16 (w / 65536) ≡ drop 2 (to_le_bytes w32 w)
high_half w =
    let a : w / 65536 % 256 ≡ w / 65536 % 256 = refl in
    let b : w / 65536 / 256 % 256 ≡ w / 16777216 % 256 = omega arith in
    cc

-- the half that is read
pub reads_low : (words bytes : List ℕ) (at half : ℕ) → bytes_of words ≡ bytes → at % 4 ≡ 0 → at + 2 ≤ length bytes → half ≡ get_or words (at / 4) 0 % 65536
    → half ≡ from_le_bytes w16 (slice_range bytes at (at + 2))
reads_low words bytes at half is aligned l e =
    let inside : at / 4 < length words = below words bytes at is l in
    let place : 4 * (at / 4) + 0 ≡ at = omega arith in
    let there : take 2 (drop (4 * (at / 4) + 0) (bytes_of words)) ≡ take 2 (to_le_bytes w32 (get_or words (at / 4) 0)) = read_in words (at / 4) 0 2 _ inside (λ rest. refl) in
    let found : slice_range bytes at (at + 2) ≡ to_le_bytes w16 half =
    range_of bytes at 2 ∙ (ap (λ (bs : List ℕ). take 2 (drop at bs)) (sym is) ∙ (ap (λ (n : ℕ). take 2 (drop n (bytes_of words))) (sym place) ∙ (there ∙ (sym (low_half (get_or words (at / 4) 0)) ∙ ap (to_le_bytes w16) (sym e))))) in
    sym (ap (from_le_bytes w16) found ∙ from_le_bytes-to_le_bytes_2 half (omega arith))

pub reads_high : (words bytes : List ℕ) (at half : ℕ) → bytes_of words ≡ bytes → at % 2 ≡ 0 → 0 < at % 4 → at + 2 ≤ length bytes → half ≡ get_or words (at / 4) 0 / 65536 → half < 2 ^ 16
    → half ≡ from_le_bytes w16 (slice_range bytes at (at + 2))
reads_high words bytes at half is aligned high l e fits =
    let inside : at / 4 < length words = below words bytes at is l in
    let place : 4 * (at / 4) + 2 ≡ at = omega arith in
    let there : take 2 (drop (4 * (at / 4) + 2) (bytes_of words)) ≡ drop 2 (to_le_bytes w32 (get_or words (at / 4) 0)) = read_in words (at / 4) 2 2 _ inside (λ rest. refl) in
    let found : slice_range bytes at (at + 2) ≡ to_le_bytes w16 half =
    range_of bytes at 2 ∙ (ap (λ (bs : List ℕ). take 2 (drop at bs)) (sym is) ∙ (ap (λ (n : ℕ). take 2 (drop n (bytes_of words))) (sym place) ∙ (there ∙ (sym (high_half (get_or words (at / 4) 0)) ∙ ap (to_le_bytes w16) (sym e))))) in
    sym (ap (from_le_bytes w16) found ∙ from_le_bytes-to_le_bytes_2 half fits)

-- the word that is set
pub writes_u32 : (words new bytes : List ℕ) (at word : ℕ) → bytes_of words ≡ bytes → at % 4 ≡ 0 → at + 4 ≤ length bytes → new ≡ set words (at / 4) word
    → bytes_of new ≡ bytes_with bytes at (to_le_bytes w32 word)
writes_u32 words new bytes at word is aligned l e =
    let inside : at / 4 < length words = below words bytes at is (omega arith) in
    let place : 4 * (at / 4) + 0 ≡ at = omega arith in
    let changed = write_in words (at / 4) word 0 (to_le_bytes w32 word) inside (λ rest. refl) in
    ap bytes_of e ∙ (changed ∙ (ap (λ (n : ℕ). bytes_with (bytes_of words) n (to_le_bytes w32 word)) place ∙ ap (λ (bs : List ℕ). bytes_with bs at (to_le_bytes w32 word)) is))

-- the half that is set
pub writes_low : (words new bytes : List ℕ) (at half : ℕ) → bytes_of words ≡ bytes → at % 4 ≡ 0 → at + 2 ≤ length bytes → half < 2 ^ 16 → new ≡ set words (at / 4) (get_or words (at / 4) 0 / 65536 * 65536 + half)
    → bytes_of new ≡ bytes_with bytes at (to_le_bytes w16 half)
writes_low words new bytes at half is aligned l fits e =
    let w = get_or words (at / 4) 0 in
    let inside : at / 4 < length words = below words bytes at is l in
    let place : 4 * (at / 4) + 0 ≡ at = omega arith in
    let changed = write_in words (at / 4) (w / 65536 * 65536 + half) 0 (to_le_bytes w16 half) inside
    (λ rest. four _ _ _ _ _ _ _ _ rest (low_0 w half) (low_1 w half fits) (low_2 w half fits) (low_3 w half fits)) in
    ap bytes_of e ∙ (changed ∙ (ap (λ (n : ℕ). bytes_with (bytes_of words) n (to_le_bytes w16 half)) place ∙ ap (λ (bs : List ℕ). bytes_with bs at (to_le_bytes w16 half)) is))
  where
    low_0 : (w half : ℕ) → (w / 65536 * 65536 + half) % 256 ≡ half % 256
    low_0 w half = omega arith

    low_1 : (w half : ℕ) → half < 2 ^ 16 → (w / 65536 * 65536 + half) / 256 % 256 ≡ half / 256 % 256
    low_1 w half fits = omega arith

    low_2 : (w half : ℕ) → half < 2 ^ 16 → (w / 65536 * 65536 + half) / 65536 % 256 ≡ w / 65536 % 256
    low_2 w half fits = omega arith

    low_3 : (w half : ℕ) → half < 2 ^ 16 → (w / 65536 * 65536 + half) / 16777216 % 256 ≡ w / 16777216 % 256
    low_3 w half fits = omega arith

pub writes_high : (words new bytes : List ℕ) (at half : ℕ) → bytes_of words ≡ bytes → at % 2 ≡ 0 → 0 < at % 4 → at + 2 ≤ length bytes → new ≡ set words (at / 4) (half * 65536 + get_or words (at / 4) 0 % 65536)
    → bytes_of new ≡ bytes_with bytes at (to_le_bytes w16 half)
writes_high words new bytes at half is aligned high l e =
    let w = get_or words (at / 4) 0 in
    let inside : at / 4 < length words = below words bytes at is l in
    let place : 4 * (at / 4) + 2 ≡ at = omega arith in
    let changed = write_in words (at / 4) (half * 65536 + w % 65536) 2 (to_le_bytes w16 half) inside
    (λ rest. four _ _ _ _ _ _ _ _ rest (high_0 w half) (high_1 w half) (high_2 w half) (high_3 w half)) in
    ap bytes_of e ∙ (changed ∙ (ap (λ (n : ℕ). bytes_with (bytes_of words) n (to_le_bytes w16 half)) place ∙ ap (λ (bs : List ℕ). bytes_with bs at (to_le_bytes w16 half)) is))
  where
    high_0 : (w half : ℕ) → (half * 65536 + w % 65536) % 256 ≡ w % 256
    high_0 w half = omega arith

    high_1 : (w half : ℕ) → (half * 65536 + w % 65536) / 256 % 256 ≡ w / 256 % 256
    high_1 w half = omega arith

    high_2 : (w half : ℕ) → (half * 65536 + w % 65536) / 65536 % 256 ≡ half % 256
    high_2 w half = omega arith

    high_3 : (w half : ℕ) → (half * 65536 + w % 65536) / 16777216 % 256 ≡ half / 256 % 256
    high_3 w half = omega arith

zero_bytes : (m : ℕ) → bytes_of (replicate m 0) ≡ replicate (4 * m) 0
zero_bytes zero = refl
zero_bytes (suc m) =
    let place : 4 * suc m ≡ suc (suc (suc (suc (4 * m)))) = omega arith in
    ap (λ (bytes : List ℕ). 0 ∷ 0 ∷ 0 ∷ 0 ∷ bytes) (zero_bytes m) ∙ sym (ap (λ (n : ℕ). replicate n 0) place)

-- words 0 behind others
pub grown : (words new bytes : List ℕ) → bytes_of words ≡ bytes → new ≡ words ++ replicate (length new - length words) 0
    → bytes_of new ≡ bytes ++ replicate (length (bytes_of new) - length bytes) 0
grown words new bytes is e =
    let more = length new - length words in
    let count : 4 * more ≡ length (bytes_of new) - length bytes = omega (arith, length-bytes_of new, length-bytes_of words, ap length is, ap length e, length-append words (replicate more 0)) in
    ap bytes_of e ∙ (flat_map-append (to_le_bytes w32) words (replicate more 0) ∙ (ap (λ (bs : List ℕ). bs ++ bytes_of (replicate more 0)) is
    ∙ ap (λ (bs : List ℕ). bytes ++ bs) (zero_bytes more ∙ ap (λ (n : ℕ). replicate n 0) count)))

-- how many bytes whole segments have
pub grown_length : (words new bytes : List ℕ) (wanted segments : ℕ) → bytes_of words ≡ bytes → segments ≡ div_ceil wanted 1048576 → length new ≡ max (length words) (262144 * segments)
    → length (bytes_of new) ≡ max (length bytes) (next_multiple_of wanted 1048576)
grown_length words new bytes wanted segments is e l =
    omega (arith, length-bytes_of new, length-bytes_of words, ap length is)
