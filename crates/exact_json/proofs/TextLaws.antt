-- Printed texts are read again.
use Rattle.std.proofs.Common.{◌≡◌, ◌∙◌, sym, ap, subst, ℕ, zero, suc, ◌+◌, ◌*◌, ◌/◌, ◌%◌, ◌<◌, ◌≤◌, Bool, true, false, cond, ◌&&◌, eqb, nat_lt, List, [], ◌∷◌, ◌++◌, length, flat_map, T, Ok, inl, inr, ◌⊎◌, refl, append_assoc, append-nil, length-append, IsUtf8, arith}
use Rattle.std.specs.Char.{digit_value}
use Rattle.std.specs.Str.{chars}
use Rattle.std.proofs.Math.Seq.{take-append_seam, drop-append_seam}
use Rattle.std.proofs.lemmas.Bool.Decides.{nat_tests}
use Rattle.std.proofs.lemmas.Str.{IsUtf8-nil, IsUtf8-encode, IsUtf8-append, chars_from_encodes, length-le-encodes}
use lib.Utf8.{scalar, scalars, encodes, encode, next}
use Rattle.gh_base.specs.declared.kinds.JsonKind.TheVariants.{End}
use Rattle.exact_json.specs.Parsing.{turns}
use Rattle.exact_json.specs.Texts.{is_plain, plain, hex, four, is_high, is_low, unicode, escape, text_turn, text}
use Rattle.exact_json.specs.Printed.{hex_digit, escaped_char}
use Rattle.exact_json.proofs.Runs.{AllPass, EndsRun, run_len, pass_append}
use Rattle.exact_json.proofs.Utf8.{valid_all}

-- a plain run is taken whole
plain_over : (u j : List ℕ) → AllPass is_plain u → IsUtf8 u → EndsRun is_plain j → plain (u ++ j) ≡ Ok (u, j)
unfolding plain
plain_over u j pass valid ends = rw (run_len is_plain u j pass ends, take-append_seam u j, drop-append_seam u j, valid_all u valid) refl

high_plain : (b : ℕ) → 128 ≤ b → is_plain b ≡ true
high_plain b high = grind (arith, nat_tests)

-- a plain character is plain bytes
plain_encode : (c : ℕ) → is_plain c ≡ true → AllPass is_plain (encode c)
unfolding encode
plain_encode c p = by (nat_lt c 128) (nat_lt c 2048) (nat_lt c 65536)
  where
    by : (a b d : Bool) → AllPass is_plain (cond a (c ∷ []) (cond b ((192 + c / 64) ∷ next c ∷ []) (cond d ((224 + c / 4096) ∷ next (c / 64) ∷ next c ∷ []) ((240 + c / 262144) ∷ next (c / 4096) ∷ next (c / 64) ∷ next c ∷ []))))
    by true b d = (p, tt)
    by false true d = (high_plain (192 + c / 64) (omega arith), (high_plain (next c) (omega arith), tt))
    by false false true = (high_plain (224 + c / 4096) (omega arith), (high_plain (next (c / 64)) (omega arith), (high_plain (next c) (omega arith), tt)))
    by false false false = (high_plain (240 + c / 262144) (omega arith), (high_plain (next (c / 4096)) (omega arith), (high_plain (next (c / 64)) (omega arith), (high_plain (next c) (omega arith), tt))))

digit_again : (d : ℕ) → d < 16 → digit_value (hex_digit d) ≡ d
digit_again d small = by (nat_lt d 10) refl
  where
    by : (t : Bool) → nat_lt d 10 ≡ t → digit_value (cond t (48 + d) (87 + d)) ≡ d
    by true e = grind (arith, nat_tests)
    by false e = grind (arith, nat_tests)

hex_again : (n d : ℕ) (i : List ℕ) → d < 16 → hex n (hex_digit d ∷ i) ≡ Ok (16 * n + d, i)
hex_again n d i small =
    let less : nat_lt d 16 ≡ true = grind (arith, nat_tests) in
    rw (digit_again d small, less) refl

four_again : (c : ℕ) (i : List ℕ) → c < 32 → four (48 ∷ 48 ∷ hex_digit (c / 16) ∷ hex_digit (c % 16) ∷ i) ≡ Ok (c, i)
unfolding four
four_again c i small =
    let whole : 16 * (16 * 0 + c / 16) + c % 16 ≡ c = omega arith in
    rw (hex_again 0 (c / 16) (hex_digit (c % 16) ∷ i) (omega arith), hex_again (16 * 0 + c / 16) (c % 16) i (omega arith)) (ap (λ (n : ℕ). Ok (n, i)) whole)

unicode_again : (start c : ℕ) (i : List ℕ) → c < 32 → unicode start (48 ∷ 48 ∷ hex_digit (c / 16) ∷ hex_digit (c % 16) ∷ i) ≡ Ok (c, i)
unfolding unicode
unicode_again start c i small =
    let no_high : is_high c ≡ false = grind (arith, nat_tests) in
    let no_low : is_low c ≡ false = grind (arith, nat_tests) in
    rw (four_again c i small, no_high, no_low) refl

escape_quote : (start : ℕ) (i : List ℕ) → escape start (34 ∷ i) ≡ Ok (34, i)
unfolding escape
escape_quote start i = refl

escape_backslash : (start : ℕ) (i : List ℕ) → escape start (92 ∷ i) ≡ Ok (92, i)
unfolding escape
escape_backslash start i = refl

escape_control : (start c : ℕ) (i : List ℕ) → c < 32 → escape start (117 ∷ 48 ∷ 48 ∷ hex_digit (c / 16) ∷ hex_digit (c % 16) ∷ i) ≡ Ok (c, i)
unfolding escape
escape_control start c i small = unicode_again start c i small

-- an escape, behind its backslash
abbrev Escaped : ℕ → Type 0
Escaped c = (k : List ℕ) × (escaped_char c ≡ 92 ∷ k) × ((start : ℕ) (i : List ℕ) → escape start (k ++ i) ≡ Ok (c, i))

abbrev Plain : ℕ → Type 0
Plain c = (escaped_char c ≡ encode c) × (is_plain c ≡ true)

-- each character is printed plain or as an escape
spelled_so : (c : ℕ) → Escaped c ⊎ Plain c
spelled_so c = by (eqb c 34) (eqb c 92) (nat_lt c 32) refl refl refl
  where
    by : (a b d : Bool) → eqb c 34 ≡ a → eqb c 92 ≡ b → nat_lt c 32 ≡ d → Escaped c ⊎ Plain c
    by true b d ea eb ed =
        let e : c ≡ 34 = grind (arith, nat_tests) in
        inl (34 ∷ [], rw e refl, λ start i. rw e (escape_quote start i))
    by false true d ea eb ed =
        let e : c ≡ 92 = grind (arith, nat_tests) in
        inl (92 ∷ [], rw e refl, λ start i. rw e (escape_backslash start i))
    by false false true ea eb ed =
        let small : c < 32 = grind (arith, nat_tests) in
        inl (117 ∷ 48 ∷ 48 ∷ hex_digit (c / 16) ∷ hex_digit (c % 16) ∷ [], rw (ea, eb, ed) refl, λ start i. escape_control start c i small)
    by false false false ea eb ed =
        let p : is_plain c ≡ true = grind (arith, nat_tests) in
        inr (rw (ea, eb, ed) refl, p)

abbrev escaped : List ℕ → List ℕ
escaped cs = flat_map escaped_char cs

abbrev Again : List ℕ → List ℕ → Type 0
Again cs rest = (u out : List ℕ) (n : ℕ) → AllPass is_plain u → IsUtf8 u → length cs ≤ n
    → turns End text_turn (suc n) out (u ++ (escaped cs ++ 34 ∷ rest)) ≡ Ok ((out ++ u) ++ encodes cs, rest)

nil_again : (rest : List ℕ) → Again [] rest
nil_again rest u out n pass valid short = rw (plain_over u (34 ∷ rest) pass valid refl, append-nil (out ++ u)) refl

escape_step : (c : ℕ) (cs rest : List ℕ) → Escaped c → Again cs rest → Again (c ∷ cs) rest
escape_step c cs rest esc more u out zero pass valid short = absurd (omega arith)
escape_step c cs rest esc more u out (suc n) pass valid short =
    let k = esc.0 in
    let j = escaped cs ++ 34 ∷ rest in
    let shape : (escaped_char c ++ escaped cs) ++ 34 ∷ rest ≡ 92 ∷ (k ++ j) = rw esc.1 (ap (λ t. 92 ∷ t) (append_assoc k (escaped cs) (34 ∷ rest))) in
    let found = more [] ((out ++ u) ++ encode c) n tt IsUtf8-nil (omega arith) in
    let joined : (((out ++ u) ++ encode c) ++ []) ++ encodes cs ≡ (out ++ u) ++ (encode c ++ encodes cs) = rw (append-nil ((out ++ u) ++ encode c)) (append_assoc (out ++ u) (encode c) (encodes cs)) in
    rw (shape, plain_over u (92 ∷ (k ++ j)) pass valid refl, esc.2 (length (92 ∷ (k ++ j))) j) (found ∙ ap (λ (t : List ℕ). Ok (t, rest)) joined)

plain_step : (c : ℕ) (cs rest : List ℕ) → scalar c ≡ true → Plain c → Again cs rest → Again (c ∷ cs) rest
plain_step c cs rest is p more u out n pass valid short =
    let j = escaped cs ++ 34 ∷ rest in
    let shape : u ++ ((escaped_char c ++ escaped cs) ++ 34 ∷ rest) ≡ (u ++ encode c) ++ j = rw p.0 (ap (λ t. u ++ t) (append_assoc (encode c) (escaped cs) (34 ∷ rest)) ∙ sym (append_assoc u (encode c) j)) in
    let found = more (u ++ encode c) out n (pass_append is_plain u (encode c) pass (plain_encode c p.1)) (IsUtf8-append u (encode c) valid (IsUtf8-encode c is)) (omega arith) in
    let joined : (out ++ (u ++ encode c)) ++ encodes cs ≡ (out ++ u) ++ (encode c ++ encodes cs) = rw (sym (append_assoc out u (encode c))) (append_assoc (out ++ u) (encode c) (encodes cs)) in
    rw shape (found ∙ ap (λ (t : List ℕ). Ok (t, rest)) joined)

first_scalar : (a b : Bool) → a && b ≡ true → (a ≡ true) × (b ≡ true)
first_scalar true b e = (refl, e)
first_scalar false b e = absurd (subst T (sym e) tt)

chars_again : (cs rest : List ℕ) → scalars cs ≡ true → Again cs rest
chars_again [] rest are = nil_again rest
chars_again (c ∷ cs) rest are = let both = first_scalar (scalar c) (scalars cs) are in by both.0 (spelled_so c) (chars_again cs rest both.1)
  where
    by : scalar c ≡ true → Escaped c ⊎ Plain c → Again cs rest → Again (c ∷ cs) rest
    by is (inl esc) more = escape_step c cs rest esc more
    by is (inr p) more = plain_step c cs rest is p more

one_at_least : (c : ℕ) → Escaped c ⊎ Plain c → 1 ≤ length (escaped_char c)
one_at_least c (inl esc) = rw esc.1 (omega arith)
one_at_least c (inr p) = rw p.0 (omega (arith, length-append (encode c) [], length-le-encodes (c ∷ [])))

escaped_long : (cs : List ℕ) → length cs ≤ length (escaped cs)
escaped_long [] = omega arith
escaped_long (c ∷ cs) = omega (arith, length-append (escaped_char c) (escaped cs), one_at_least c (spelled_so c), escaped_long cs)

scalar_text : (t rest : List ℕ) (cs : List ℕ) → scalars cs ≡ true → encodes cs ≡ t → cs ≡ chars t → text (escaped (chars t) ++ 34 ∷ rest) ≡ Ok (t, rest)
unfolding text
scalar_text t rest cs are spells same =
    let n = length (escaped cs) + length rest in
    let long : length (escaped cs ++ 34 ∷ rest) ≡ suc n = omega (arith, length-append (escaped cs) (34 ∷ rest)) in
    let found = chars_again cs rest are [] [] n tt IsUtf8-nil (omega (arith, escaped_long cs)) in
    rw (sym same, long) (found ∙ ap (λ (s : List ℕ). Ok (s, rest)) spells)

-- behind the first quote
pub text_again : (t rest : List ℕ) → IsUtf8 t → text (flat_map escaped_char (chars t) ++ 34 ∷ rest) ≡ Ok (t, rest)
text_again t rest valid = scalar_text t rest valid.0 valid.1.0 valid.1.1 (chars_from_encodes valid.0 t valid valid.1.1)
