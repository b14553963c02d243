-- Words that are joined by spaces are parted again.
use Rattle.std.proofs.Common.{◌≡◌, ◌∙◌, ℕ, ◌<◌, ◌≤◌, List, [], ◌∷◌, ◌++◌, length, Bool, true, false, ◌&&◌, eqb, ltb, IsUtf8, refl, ap, arith}
use Rattle.std.specs.Str.Lossy.{utf8_valid_len}
use Rattle.std.proofs.lemmas.Bool.{ne_eqb, eq-eqb, and_parts}
use Rattle.std.proofs.lemmas.Bool.Decides.{nat_tests}
use Rattle.std.proofs.lemmas.Str.{IsUtf8-append, utf8_valid_len-IsUtf8}
use Rattle.gh_base.specs.Parts.{parts_of}
use Rattle.plain_map.proofs.Splits.{Each, each_more, Without, cut_at, cut_end}
use Rattle.plain_map.proofs.PrintedWords.{AllItems}
use Rattle.plain_map.proofs.PrintedBytes.{utf8_ascii}
use Rattle.script_laws.specs.Writing.{spaced}

-- a byte of a word: ASCII, above a space
pub record IsGraphic (b : ℕ) : Type 0 where
  pub above : 32 < b
  pub ascii : b < 128

pub no_space : (word : List ℕ) → Each IsGraphic word → Without 32 word
no_space word h = each_more IsGraphic _ (λ b k. ne_eqb b 32 (λ e. omega (arith, k.above))) word h

pub word_utf8 : (word : List ℕ) → Each IsGraphic word → IsUtf8 word
word_utf8 word h = utf8_ascii word (each_more IsGraphic _ (λ b k. k.ascii) word h)

-- the last may have spaces
pub parted : (words : List (List ℕ)) (last : List ℕ) → AllItems (Without 32) words → parts_of 32 (spaced (words ++ last ∷ [])) ≡ words ++ parts_of 32 last
parted [] last h = refl
parted (word ∷ []) last h = cut_at 32 word last h.0
parted (word ∷ next ∷ words) last h = cut_at 32 word (spaced ((next ∷ words) ++ last ∷ [])) h.0 ∙ ap (λ (ws : List (List ℕ)). word ∷ ws) (parted (next ∷ words) last h.1)

pub one_word : (last : List ℕ) → Without 32 last → parts_of 32 last ≡ last ∷ []
one_word last h = cut_end 32 last h

pub spaced_utf8 : (words : List (List ℕ)) → AllItems IsUtf8 words → IsUtf8 (spaced words)
spaced_utf8 [] h = utf8_ascii [] tt
spaced_utf8 (word ∷ []) h = h.0
spaced_utf8 (word ∷ next ∷ words) h = IsUtf8-append word (32 ∷ spaced (next ∷ words)) h.0 (IsUtf8-append (32 ∷ []) (spaced (next ∷ words)) (utf8_ascii (32 ∷ []) (omega arith, tt)) (spaced_utf8 (next ∷ words) h.1))

pub is_valid : (line : List ℕ) → IsUtf8 line → eqb (utf8_valid_len line) (length line) ≡ true
is_valid line h = eq-eqb (utf8_valid_len line) (length line) (utf8_valid_len-IsUtf8 line h)

-- a word is made of such bytes, by computing
abbrev pub all_graphic : List ℕ → Bool
all_graphic [] = true
all_graphic (b ∷ bytes) = ltb 32 b && (ltb b 128 && all_graphic bytes)

pub word_graphic : (word : List ℕ) → all_graphic word ≡ true → Each IsGraphic word
word_graphic [] h = tt
word_graphic (b ∷ bytes) h =
    let p = and_parts (ltb 32 b) (ltb b 128 && all_graphic bytes) h in
    let q = and_parts (ltb b 128) (all_graphic bytes) p.1 in
    (record { above = grind (arith, nat_tests, p.0); ascii = grind (arith, nat_tests, q.0) }, word_graphic bytes q.1)
