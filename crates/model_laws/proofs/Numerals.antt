-- Decimals are read as what they are worth.
use Rattle.std.proofs.Common.{◌≡◌, ◌∙◌, ℕ, suc, pos, ◌+◌, ◌-◌, ◌*◌, ◌^◌, ◌<◌, ◌≤◌, List, [], ◌∷◌, ◌++◌, length, length-append, drop, append-nil, true, false, eqb, ltb, leb, Some, None, refl, ap, sym, arith}
use Rattle.std.specs.Prelude.{position, int_lt}
use Rattle.std.specs.List.{position_or_len}
use Rattle.std.proofs.Math.Nat.{pow-succ', eq_of_mul-eq-mul_right, mul_assoc, add-mul}
use Rattle.std.proofs.lemmas.Bool.Decides.{nat_tests}
use Rattle.std.proofs.lemmas.Int.{ints}
use Rattle.std.proofs.lemmas.List.{take_at}
use Rattle.std.proofs.lemmas.Nat.{pow-add}
use Rattle.gh_base.specs.Decimals.{digits_from, natural_of, split_at_dot, decimal_of, is_minus}
use Rattle.exact_json.proofs.Limits.{ten_pow}
use Rattle.model_texts.specs.Amounts.{natural, constant_of, factor_of, within}
use Rattle.model_laws.specs.Spelling.{is_digit, AllPass}
use Rattle.model_laws.specs.Numerals.{worth, pointed, IsDecimal}

spread : (m q c r : ℕ) → (10 * m + q) * c + r ≡ m * (10 * c) + (q * c + r)
spread m q c r = grind arith

digits_value : (n : ℕ) (digits : List ℕ) → AllPass is_digit digits → digits_from n digits ≡ Some (n * 10 ^ length digits + worth digits)
digits_value n [] h = ap Some (omega arith)
digits_value n (d ∷ digits) h =
    let power : 10 ^ suc (length digits) ≡ 10 * 10 ^ length digits = pow-succ' 10 (length digits) in
    rw (h.0, power) (digits_value (10 * n + (d - 48)) digits h.1 ∙ ap Some (spread n (d - 48) (10 ^ length digits) (worth digits)))

natural_value : (most : ℕ) (digits : List ℕ) → AllPass is_digit digits → 0 < length digits → length digits ≤ most → natural_of most digits ≡ Some (worth digits)
unfolding natural_of
natural_value most digits h some few =
    let one : ltb 0 (length digits) ≡ true = grind (arith, nat_tests) in
    let two : leb (length digits) most ≡ true = grind (arith, nat_tests) in
    rw (one, two) (digits_value 0 digits h ∙ ap Some (omega arith))

abbrev Dotless : List ℕ → Type 0
Dotless [] = Unit {0}
Dotless (b ∷ bytes) = (eqb b 46 ≡ false) × Dotless bytes

no_dot : (digits : List ℕ) → AllPass is_digit digits → Dotless digits
no_dot [] h = tt
no_dot (d ∷ digits) h = (let digit : is_digit d ≡ true = h.0 in grind (arith, nat_tests), no_dot digits h.1)

no_minus : (whole rest : List ℕ) → AllPass is_digit whole → 0 < length whole → is_minus (whole ++ rest) ≡ false
no_minus [] rest h some = absurd (omega arith)
no_minus (d ∷ whole) rest h some = let digit : is_digit d ≡ true = h.0 in grind (arith, nat_tests)

dot_at : (xs ys : List ℕ) → Dotless xs → position_or_len (λ b. eqb b 46) (xs ++ 46 ∷ ys) ≡ length xs
dot_at [] ys h = refl
dot_at (x ∷ xs) ys h = let e = dot_at xs ys h.1 in rw h.0 (omega (arith, e))

dot_none : (xs : List ℕ) → Dotless xs → position_or_len (λ b. eqb b 46) xs ≡ length xs
dot_none [] h = refl
dot_none (x ∷ xs) h = let e = dot_none xs h.1 in rw h.0 (omega (arith, e))

position_dot : (xs ys : List ℕ) → Dotless xs → position (λ b. eqb b 46) (xs ++ 46 ∷ ys) ≡ Some (length xs)
position_dot xs ys h =
    let longer : length xs < length (xs ++ 46 ∷ ys) = omega (arith, length-append xs (46 ∷ ys)) in
    let test : ltb (length xs) (length (xs ++ 46 ∷ ys)) ≡ true = grind (arith, nat_tests) in
    rw (dot_at xs ys h, test) refl

not_below : (n : ℕ) → ltb n n ≡ false
not_below n = grind (arith, nat_tests)

position_none : (xs : List ℕ) → Dotless xs → position (λ b. eqb b 46) xs ≡ None
position_none xs h = rw (dot_none xs h, not_below (length xs)) refl

drop_past : (xs ys : List ℕ) → drop (length xs + 1) (xs ++ 46 ∷ ys) ≡ ys
drop_past [] ys = refl
drop_past (x ∷ xs) ys = let e : suc (length xs) + 1 ≡ suc (length xs + 1) = omega arith in rw e (drop_past xs ys)

scaled_worth : ℕ → List ℕ → List ℕ → ℕ
scaled_worth most whole places = worth whole * 10 ^ most + worth places * 10 ^ (most - length places)

split_value : (most : ℕ) (whole places : List ℕ) → AllPass is_digit whole → 0 < length whole → length whole ≤ 9 → AllPass is_digit places → length places ≤ most →
    split_at_dot most (whole ++ pointed places) (position (λ b. eqb b 46) (whole ++ pointed places)) ≡ Some (scaled_worth most whole places)
unfolding split_at_dot scaled_worth
split_value most whole [] h some few k few_too =
    rw (append-nil whole, position_none whole (no_dot whole h), natural_value 9 whole h some few) (ap Some (omega arith))
split_value most whole (d ∷ places) h some few k few_too =
    let some_too : 0 < length (d ∷ places) = omega arith in
    rw (position_dot whole (d ∷ places) (no_dot whole h), take_at whole (46 ∷ d ∷ places) (length whole) refl, drop_past whole (d ∷ places), natural_value 9 whole h some few, natural_value most (d ∷ places) k some_too few_too) refl

worth_append : (a b : List ℕ) → worth (a ++ b) ≡ worth a * 10 ^ length b + worth b
worth_append [] b = omega arith
worth_append (d ∷ a) b =
    let more = worth_append a b in
    let power : 10 ^ length (a ++ b) ≡ 10 ^ length a * 10 ^ length b = ap (λ (k : ℕ). 10 ^ k) (length-append a b) ∙ pow-add 10 (length a) (length b) in
    let one = mul_assoc (d - 48) (10 ^ length a) (10 ^ length b) in
    let two = add-mul ((d - 48) * 10 ^ length a) (worth a) (10 ^ length b) in
    rw (power, more) (omega (arith, one, two))

out : (w p most len front : ℕ) → (w * most + p * front) * len ≡ w * len * most + p * (front * len)
out w p most len front = grind arith

multiplied : (most : ℕ) (whole places : List ℕ) → length places ≤ most → scaled_worth most whole places * 10 ^ length places ≡ worth (whole ++ places) * 10 ^ most
unfolding scaled_worth
multiplied most whole places few =
    let power : 10 ^ (most - length places) * 10 ^ length places ≡ 10 ^ most = sym (pow-add 10 (most - length places) (length places)) ∙ ap (λ (k : ℕ). 10 ^ k) (omega arith) in
    rw (worth_append whole places) (out (worth whole) (worth places) (10 ^ most) (10 ^ length places) (10 ^ (most - length places)) ∙ rw power (sym (add-mul (worth whole * 10 ^ length places) (worth places) (10 ^ most))))

same_times : (a b p : ℕ) → 0 < p → a * p ≡ b * p → a ≡ b
same_times a b p some e = eq_of_mul-eq-mul_right p some a b e

pub decimal_read : (most n : ℕ) (text : List ℕ) → IsDecimal most n text → decimal_of most text ≡ Some (pos n)
unfolding decimal_of
decimal_read most n text d =
    let whole = d.whole in
    let places = d.behind in
    let same : scaled_worth most whole places ≡ n = same_times (scaled_worth most whole places) n (10 ^ length places) (ten_pow (length places)) (multiplied most whole places d.few_places ∙ sym d.worth_is) in
    let e = d.text_is in
    rw (e, no_minus whole (pointed places) d.digits.0 d.some, split_value most whole places d.digits.0 d.some d.few d.digits.1 d.few_places) (ap (λ (k : ℕ). Some (pos k)) same)

natural_is : (n : ℕ) → natural (pos n) ≡ Some n
natural_is n = let test : int_lt (pos n) (pos 0) ≡ false = grind (arith, nat_tests, ints) in rw test refl

pub constant_read : (n : ℕ) (text : List ℕ) → IsDecimal 3 n text → constant_of text ≡ Some n
unfolding constant_of
constant_read n text d = rw (decimal_read 3 n text d) (natural_is n)

pub within_is : (most n : ℕ) → n ≤ most → within most (pos n) ≡ Some n
within_is most n small =
    let fits : ltb most n ≡ false = grind (arith, nat_tests) in
    rw (natural_is n, fits) refl

pub factor_read : (n : ℕ) (text : List ℕ) → IsDecimal 6 n text → n ≤ 10000000 → factor_of text ≡ Some n
unfolding factor_of
factor_read n text d small = rw (decimal_read 6 n text d) (within_is 10000000 n small)
