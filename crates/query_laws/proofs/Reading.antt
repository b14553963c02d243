-- Written lines are read again, one behind another.
use Rattle.std.proofs.Common.{◌≡◌, ◌≢◌, ◌∙◌, ℕ, ℤ, ◌+◌, ◌<◌, ◌≤◌, List, [], ◌∷◌, ◌++◌, map, length, length-append, Bool, true, false, eqb, lt-ltb, Option, Some, None, Result, Ok, Err, refl, ap, sym, arith, append-nil, append_assoc}
use Rattle.std.specs.Prelude.{All, if◌then◌else◌}
use Rattle.std.specs.Fmt.{signed_decimal}
use Rattle.std.specs.Str.Lossy.{utf8_valid_len}
use Rattle.std.proofs.lemmas.Bool.{eq-eqb, ne_eqb}
use Rattle.std.proofs.lemmas.List.{map-append}
use Rattle.std.proofs.lemmas.List.Elements.{All-cons, All-head, All-tail}
use Rattle.std.proofs.lemmas.Str.{utf8_valid_len-IsUtf8}
use Rattle.gh_base.specs.declared.kinds.ScriptKind.{ScriptKind}
use Rattle.gh_base.specs.declared.kinds.ScriptKind.TheVariants as kind
use Rattle.gh_base.specs.Maps.{IsShort}
use Rattle.gh_base.specs.Parts.{parts_of}
use Rattle.plain_map.proofs.Splits.{Each, each_append, each_more, Without, cut_at, cut_end}
use Rattle.plain_map.proofs.PrintedBytes.{IsOfNumber, id_bytes, utf8_ascii}
use Rattle.plain_map.proofs.PrintedNumbers.{id_again}
use Rattle.script_text.specs.declared.fault.ScriptFault.{ScriptFault}
use Rattle.script_text.specs.declared.fault.ScriptFault.TheVariants.{At}
use Rattle.script_text.specs.Grammar.{and_so, at_line}
use Rattle.query_lines.specs.declared.queries.TowerQuery.{TowerQuery}
use Rattle.query_lines.specs.Queries.{and_one, found_in, queries_from, queries_of, query, query_at, query_in, tower_of}
use Rattle.query_laws.specs.Writing.{Line, Asks, Empty, Remark, IsSayable, all_ask, asks, line_text, text_of, tower_word}

-- ---- bytes

-- a byte of a query line: neither a newline nor beyond ASCII
record IsOfLine (b : ℕ) : Type 0 where
  pub above : 31 < b
  pub ascii : b < 128

of_number : (b : ℕ) → IsOfNumber b → IsOfLine b
of_number b h = record { above = omega (arith, h.low); ascii = omega (arith, h.high) }

tower_bytes : (id : ℤ) → IsShort id → Each IsOfLine (tower_word id)
tower_bytes id h = (record { above = omega arith; ascii = omega arith }, each_more IsOfNumber IsOfLine of_number (signed_decimal id) (id_bytes id h))

tower_space : (id : ℤ) → IsShort id → Without 32 (tower_word id)
tower_space id h = (refl, each_more IsOfNumber (λ b. eqb b 32 ≡ false) (λ b k. ne_eqb b 32 (λ e. omega (arith, e, k.low))) (signed_decimal id) (id_bytes id h))

asks_bytes : (from to : ℤ) → IsShort from → IsShort to → Each IsOfLine (line_text (Asks from to))
asks_bytes from to h k = each_append IsOfLine (tower_word from) (32 ∷ tower_word to) (tower_bytes from h) (record { above = omega arith; ascii = omega arith }, tower_bytes to k)

without_newline : (text : List ℕ) → All (λ b. b ≢ 10) text → Without 10 text
without_newline [] h = tt
without_newline (b ∷ text) h = (ne_eqb b 10 (All-head (λ b. b ≢ 10) b text h), without_newline text (All-tail (λ b. b ≢ 10) b text h))

line_newline : (line : Line) → IsSayable line → Without 10 (line_text line)
line_newline (Asks from to) h = each_more IsOfLine (λ b. eqb b 10 ≡ false) (λ b k. ne_eqb b 10 (λ e. omega (arith, e, k.above))) (line_text (Asks from to)) (asks_bytes from to h.0 h.1)
line_newline Empty h = tt
line_newline (Remark text) h = (refl, without_newline text h)

-- ---- a line

two_towers : (from to : ℤ) → IsShort from → IsShort to → found_in (query (0, tower_word from ∷ tower_word to ∷ [])) ≡ Ok (Some (record { from = from; to = to }))
unfolding query tower_of
two_towers from to h k = rw (id_again from h, id_again to k) refl

asks_again : (count : ℕ) (from to : ℤ) → IsShort from → IsShort to → count < 65536 → query_at count (line_text (Asks from to)) ≡ Ok (Some (record { from = from; to = to }))
unfolding query_at
asks_again count from to h k few =
    let text = line_text (Asks from to) in
    let valid : eqb (utf8_valid_len text) (length text) ≡ true = eq-eqb _ _ (utf8_valid_len-IsUtf8 text (utf8_ascii text (each_more IsOfLine (λ b. b < 128) (λ b k. k.ascii) text (asks_bytes from to h k)))) in
    let parts : parts_of 32 text ≡ tower_word from ∷ tower_word to ∷ [] =
    cut_at 32 (tower_word from) (tower_word to) (tower_space from h) ∙ ap (λ (ws : List (List ℕ)). tower_word from ∷ ws) (cut_end 32 (tower_word to) (tower_space to k)) in
    let of_valid : Bool → Result (Option TowerQuery) (ℕ × ScriptKind) = λ b. if b then query_in count text else Err (utf8_valid_len text, kind.Utf8) in
    let of_few : Bool → Result (Option TowerQuery) (ℕ × ScriptKind) = λ b. if b then found_in (query (0, parts_of 32 text)) else Err (0, kind.TooMany) in
    let of_words : List (List ℕ) → Result (Option TowerQuery) (ℕ × ScriptKind) = λ ws. found_in (query (0, ws)) in
    ap of_valid valid ∙ ap of_few (lt-ltb count 65536 few) ∙ ap of_words parts ∙ two_towers from to h k

-- what a line asks, if anything
abbrev asked_one : Line → Option TowerQuery
asked_one (Asks from to) = Some (record { from = from; to = to })
asked_one Empty = None
asked_one (Remark text) = None

line_again : (count : ℕ) (line : Line) → IsSayable line → count + length (asks line) ≤ 65536 → query_at count (line_text line) ≡ Ok (asked_one line)
unfolding query_at
line_again count (Asks from to) h few = asks_again count from to h.0 h.1 (omega (arith, few))
line_again count Empty h few = refl
line_again count (Remark text) h few = refl

one_more : (before : List TowerQuery) (line : Line) → and_one before (asked_one line) ≡ before ++ asks line
one_more before (Asks from to) = refl
one_more before Empty = sym (append-nil before)
one_more before (Remark text) = sym (append-nil before)

-- ---- lines one behind another

lines_again : (lines : List Line) (number : ℕ) (before : List TowerQuery) (tail : List (List ℕ)) → All IsSayable lines → length before + length (all_ask lines) ≤ 65536 →
    queries_from number before (map line_text lines ++ tail) ≡ queries_from (number + length lines) (before ++ all_ask lines) tail
lines_again [] number before tail h few =
    let same : number ≡ number + 0 = omega arith in
    ap (λ (k : ℕ). queries_from k before tail) same ∙ ap (λ (qs : List TowerQuery). queries_from (number + 0) qs tail) (sym (append-nil before))
lines_again (line ∷ lines) number before tail h few =
    let parts = length-append (asks line) (all_ask lines) in
    let first : length before + length (asks line) ≤ 65536 = omega (arith, few, parts) in
    let grown : length (before ++ asks line) + length (all_ask lines) ≤ 65536 = omega (arith, few, parts, length-append before (asks line)) in
    let next : Result (Option TowerQuery) (ℕ × ScriptKind) → Result (List TowerQuery) ScriptFault =
    λ r. and_so (at_line number r) (λ found. queries_from (number + 1) (and_one before found) (map line_text lines ++ tail)) in
    let counted : (number + 1) + length lines ≡ number + length (line ∷ lines) = omega arith in
    ap next (line_again (length before) line (All-head IsSayable line lines h) first)
    ∙ ap (λ (qs : List TowerQuery). queries_from (number + 1) qs (map line_text lines ++ tail)) (one_more before line)
    ∙ lines_again lines (number + 1) (before ++ asks line) tail (All-tail IsSayable line lines h) grown
    ∙ ap (λ (k : ℕ). queries_from k ((before ++ asks line) ++ all_ask lines) tail) counted
    ∙ ap (λ (qs : List TowerQuery). queries_from (number + length (line ∷ lines)) qs tail) (append_assoc before (asks line) (all_ask lines))

lines_parted : (lines : List Line) (more : List ℕ) → All IsSayable lines → parts_of 10 (text_of lines ++ more) ≡ map line_text lines ++ parts_of 10 more
lines_parted [] more h = refl
lines_parted (line ∷ lines) more h =
    ap (parts_of 10) (append_assoc (line_text line) (10 ∷ text_of lines) more)
    ∙ cut_at 10 (line_text line) (text_of lines ++ more) (line_newline line (All-head IsSayable line lines h))
    ∙ ap (λ (ls : List (List ℕ)). line_text line ∷ ls) (lines_parted lines more (All-tail IsSayable line lines h))

front_sayable : (lines : List Line) (last : Line) → All IsSayable (lines ++ last ∷ []) → All IsSayable lines × IsSayable last
front_sayable [] last h = (λ k d lt. absurd (omega arith), All-head IsSayable last [] h)
front_sayable (line ∷ lines) last h =
    let rest = front_sayable lines last (All-tail IsSayable line (lines ++ last ∷ []) h) in
    (All-cons IsSayable line lines (All-head IsSayable line (lines ++ last ∷ []) h) rest.0, rest.1)

pub queries_again : (lines : List Line) (last : Line) → All IsSayable (lines ++ last ∷ []) → length (all_ask (lines ++ last ∷ [])) ≤ 65536 → queries_of (text_of lines ++ line_text last) ≡ Ok (all_ask (lines ++ last ∷ []))
unfolding queries_of
queries_again lines last h few =
    let parts = front_sayable lines last h in
    let joined : map line_text lines ++ line_text last ∷ [] ≡ map line_text (lines ++ last ∷ []) ++ [] = sym (map-append line_text lines (last ∷ [])) ∙ sym (append-nil (map line_text (lines ++ last ∷ []))) in
    let parted : parts_of 10 (text_of lines ++ line_text last) ≡ map line_text (lines ++ last ∷ []) ++ [] =
    lines_parted lines (line_text last) parts.0 ∙ ap (λ (ls : List (List ℕ)). map line_text lines ++ ls) (cut_end 10 (line_text last) (line_newline last parts.1)) ∙ joined in
    ap (queries_from 1 []) parted ∙ lines_again (lines ++ last ∷ []) 1 [] [] h (omega (arith, few))

pub fault_again : (lines : List Line) (line rest : List ℕ) (byte : ℕ) (kind : ScriptKind) → All IsSayable lines → length (all_ask lines) ≤ 65536 → All (λ b. b ≢ 10) line →
    query_at (length (all_ask lines)) line ≡ Err (byte, kind) → queries_of (text_of lines ++ (line ++ 10 ∷ rest)) ≡ Err (At (length lines + 1) byte kind)
unfolding queries_of
fault_again lines line rest byte kind h few clean wrong =
    let parted : parts_of 10 (text_of lines ++ (line ++ 10 ∷ rest)) ≡ map line_text lines ++ (line ∷ parts_of 10 rest) =
    lines_parted lines (line ++ 10 ∷ rest) h ∙ ap (λ (ls : List (List ℕ)). map line_text lines ++ ls) (cut_at 10 line rest (without_newline line clean)) in
    let next : Result (Option TowerQuery) (ℕ × ScriptKind) → Result (List TowerQuery) ScriptFault =
    λ r. and_so (at_line (1 + length lines) r) (λ found. queries_from ((1 + length lines) + 1) (and_one (all_ask lines) found) (parts_of 10 rest)) in
    let number : 1 + length lines ≡ length lines + 1 = omega arith in
    ap (queries_from 1 []) parted ∙ lines_again lines 1 [] (line ∷ parts_of 10 rest) h (omega (arith, few)) ∙ ap next wrong ∙ ap (λ (k : ℕ). Err (At k byte kind)) number
