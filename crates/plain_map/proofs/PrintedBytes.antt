-- What bytes printed texts have: UTF-8, and none that parts words or lines.
use Rattle.std.proofs.Common.{◌≡◌, ◌∙◌, ℕ, zero, suc, ℤ, pos, negsuc, ◌+◌, ◌/◌, ◌%◌, ◌^◌, ◌<◌, ◌≤◌, List, [], ◌∷◌, ◌++◌, Bool, true, false, cond, ◌&&◌, ltb, nat_abs, IsUtf8, refl, ap, sym, arith, append_assoc, append-nil}
use Rattle.std.specs.Str.{IsAscii}
use Rattle.std.specs.Fmt.{decimal, signed_decimal}
use Rattle.std.proofs.lemmas.Bool.Decides.{nat_tests}
use Rattle.std.proofs.lemmas.Str.{IsUtf8-append, IsUtf8-nil, IsUtf8-from_ascii, encode_ascii}
use Rattle.std.proofs.lemmas.Str.Ascii.{IsAscii-nil}
use lib.Utf8.{encode, encodes, scalar, scalars}
use Rattle.gh_base.specs.Maps.{IsShort}
use Rattle.plain_map.specs.Printing.{is_escaped, escape, escaped, places_text, dotted, degrees_text, coordinate_text}
use Rattle.plain_map.proofs.Splits.{Each, each_append, each_more, IsClean}
use Rattle.plain_map.proofs.PrintedNumbers.{IsDigit, decimal_spells}
use Rattle.plain_map.proofs.PrintedPlaces.{places_spelled}
use Rattle.plain_map.proofs.PrintedTexts.{escaped_ascii}

-- a byte of a number: from - to 9
pub record IsOfNumber (b : ℕ) : Type 0 where
  pub low : 45 ≤ b
  pub high : b ≤ 57

pub clean_number : (b : ℕ) → IsOfNumber b → IsClean b
clean_number b h = record { above = omega (arith, h.low); comma = λ e. omega (arith, h.low); equals = λ e. omega (arith, h.high) }

of_digit : (b : ℕ) → IsDigit b → IsOfNumber b
of_digit b h = record { low = omega (arith, h.low); high = h.high }

minus : IsOfNumber 45
minus = record { low = omega arith; high = omega arith }

dot : IsOfNumber 46
dot = record { low = omega arith; high = omega arith }

decimal_bytes : (n : ℕ) → n < 2 ^ 64 → Each IsOfNumber (decimal n)
decimal_bytes n h = each_more IsDigit IsOfNumber of_digit (decimal n) (decimal_spells n h).each

pub id_bytes : (id : ℤ) → IsShort id → Each IsOfNumber (signed_decimal id)
id_bytes (pos n) h = decimal_bytes n (omega arith)
id_bytes (negsuc n) h = (minus, decimal_bytes (suc n) (omega arith))

dotted_bytes : (ds : List ℕ) → Each IsOfNumber ds → Each IsOfNumber (dotted ds)
dotted_bytes [] h = tt
dotted_bytes (b ∷ ds) h = (dot, h)

degrees_bytes : (n : ℕ) → n < 10 ^ 16 → Each IsOfNumber (degrees_text n)
degrees_bytes n h =
    let places = places_spelled 7 (n % 10000000) (omega arith) in
    each_append IsOfNumber (decimal (n / 10000000)) (dotted (places_text 7 (n % 10000000))) (decimal_bytes (n / 10000000) (omega arith)) (dotted_bytes (places_text 7 (n % 10000000)) (each_more IsDigit IsOfNumber of_digit (places_text 7 (n % 10000000)) places.each))

pub coordinate_bytes : (z : ℤ) → nat_abs z < 10 ^ 16 → Each IsOfNumber (coordinate_text z)
coordinate_bytes (pos n) h = degrees_bytes n h
coordinate_bytes (negsuc n) h = (minus, degrees_bytes (suc n) h)

ascii_at : (x : ℕ) (a : List ℕ) → Each (λ b. b < 128) (x ∷ a) → IsAscii a → IsAscii (x ∷ a)
ascii_at x a h k zero = h.0
ascii_at x a h k (suc i) = k i

ascii_each : (a : List ℕ) → Each (λ b. b < 128) a → IsAscii a
ascii_each [] h = IsAscii-nil
ascii_each (x ∷ a) h = λ i. ascii_at x a h (ascii_each a h.1) i

pub utf8_ascii : (a : List ℕ) → Each (λ b. b < 128) a → IsUtf8 a
utf8_ascii a h = IsUtf8-from_ascii a (ascii_each a h)

pub utf8_number : (a : List ℕ) → Each IsOfNumber a → IsUtf8 a
utf8_number a h = utf8_ascii a (each_more IsOfNumber _ (λ b k. omega (arith, k.high)) a h)

escaped_append : (a b : List ℕ) → escaped (a ++ b) ≡ escaped a ++ escaped b
escaped_append [] b = refl
escaped_append (x ∷ a) b = ap (λ l. escape x ++ l) (escaped_append a b) ∙ sym (append_assoc (escape x) (escaped a) (escaped b))

high_escape : (b : ℕ) → 128 ≤ b → is_escaped b ≡ false
high_escape b h = grind (arith, nat_tests)

escaped_high : (a : List ℕ) → Each (λ b. 128 ≤ b) a → escaped a ≡ a
escaped_high [] h = refl
escaped_high (b ∷ a) h = rw (high_escape b h.0) (ap (λ l. b ∷ l) (escaped_high a h.1))

high_list : (t u : Bool) (c : ℕ) → Each (λ b. 128 ≤ b) (cond t ((192 + c / 64) ∷ (128 + c % 64) ∷ []) (cond u ((224 + c / 4096) ∷ (128 + c / 64 % 64) ∷ (128 + c % 64) ∷ []) ((240 + c / 262144) ∷ (128 + c / 4096 % 64) ∷ (128 + c / 64 % 64) ∷ (128 + c % 64) ∷ [])))
high_list true u c = (omega arith, (omega arith, tt))
high_list false true c = (omega arith, (omega arith, (omega arith, tt)))
high_list false false c = (omega arith, (omega arith, (omega arith, (omega arith, tt))))

high_char : (c : ℕ) → ltb c 128 ≡ false → Each (λ b. 128 ≤ b) (encode c)
unfolding encode
high_char c e = rw e (high_list (ltb c 2048) (ltb c 65536) c)

char_by : (t : Bool) (c : ℕ) → ltb c 128 ≡ t → scalar c ≡ true → IsUtf8 (escaped (encode c))
char_by true c e s = let low : c < 128 = grind (arith, nat_tests) in rw (encode_ascii c low) (utf8_ascii (escaped (c ∷ [])) (escaped_ascii (c ∷ []) (low, tt)))
char_by false c e s = rw (escaped_high (encode c) (high_char c e)) (c ∷ [], (rw s refl, append-nil (encode c)))

both : (x y : Bool) → (x && y) ≡ true → (x ≡ true) × (y ≡ true)
both true true e = (refl, refl)
both true false e = cc
both false y e = cc

chars_utf8 : (cs : List ℕ) → scalars cs ≡ true → IsUtf8 (escaped (encodes cs))
chars_utf8 [] s = IsUtf8-nil
chars_utf8 (c ∷ cs) s =
    let k = both (scalar c) (scalars cs) s in
    rw (escaped_append (encode c) (encodes cs)) (IsUtf8-append (escaped (encode c)) (escaped (encodes cs)) (char_by (ltb c 128) c refl k.0) (chars_utf8 cs k.1))

pub text_utf8 : (text : List ℕ) → IsUtf8 text → IsUtf8 (escaped text)
text_utf8 text h = rw (← h.1.1) (chars_utf8 h.0 h.1.0)
