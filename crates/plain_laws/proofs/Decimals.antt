-- Decimals are worth what their digits say.
use Rattle.std.proofs.Common.{◌≡◌, ◌≢◌, ◌∙◌, ℕ, suc, ℤ, pos, ◌+◌, ◌-◌, ◌*◌, ◌^◌, ◌<◌, ◌≤◌, List, [], ◌∷◌, ◌++◌, length, length-append, take, drop, Bool, true, false, eqb, ltb, leb, Option, Some, None, IsTrue, refl, ap, sym, arith}
use Rattle.std.specs.Prelude.{position}
use Rattle.std.specs.Char.{is_ascii_digit}
use Rattle.std.proofs.Math.Nat.{pow-succ', mul_assoc, mul_comm, add-mul}
use Rattle.std.proofs.lemmas.Bool.{ne_eqb}
use Rattle.std.proofs.lemmas.Bool.Decides.{nat_tests}
use Rattle.std.proofs.lemmas.List.{take_at}
use Rattle.std.proofs.lemmas.Nat.{pow-add}
use Rattle.gh_base.specs.Decimals.{digits_from, natural_of, split_at_dot, decimal_of, is_minus, signed}
use Rattle.plain_map.proofs.Splits.{Each, Without}
use Rattle.plain_map.proofs.PrintedPlaces.{dot_at}
use Rattle.plain_laws.specs.Coordinates.{AreDigits, worth, decimal_text, with_sign, CoordinatesAreExact}

spread : (m q c r : ℕ) → (10 * m + q) * c + r ≡ m * (10 * c) + (q * c + r)
spread m q c r = grind arith

digits_value : (n : ℕ) (digits : List ℕ) → AreDigits digits → digits_from n digits ≡ Some (n * 10 ^ length digits + worth digits)
digits_value n [] h = ap Some (omega arith)
digits_value n (d ∷ digits) h =
    let power : 10 ^ suc (length digits) ≡ 10 * 10 ^ length digits = pow-succ' 10 (length digits) in
    rw (h.0, power) (digits_value (10 * n + (d - 48)) digits h.1 ∙ ap Some (spread n (d - 48) (10 ^ length digits) (worth digits)))

natural_value : (most : ℕ) (digits : List ℕ) → AreDigits digits → 0 < length digits → length digits ≤ most → natural_of most digits ≡ Some (worth digits)
unfolding natural_of
natural_value most digits h some few =
    let one : ltb 0 (length digits) ≡ true = grind (arith, nat_tests) in
    let two : leb (length digits) most ≡ true = grind (arith, nat_tests) in
    rw (one, two) (digits_value 0 digits h ∙ ap Some (omega arith))

no_dot : (digits : List ℕ) → AreDigits digits → Without 46 digits
no_dot [] h = tt
no_dot (d ∷ digits) h = (let digit : is_ascii_digit d ≡ true = h.0 in grind (arith, nat_tests), no_dot digits h.1)

no_minus : (whole rest : List ℕ) → AreDigits whole → 0 < length whole → is_minus (whole ++ rest) ≡ false
no_minus [] rest h some = absurd (omega arith)
no_minus (d ∷ whole) rest h some = let digit : is_ascii_digit d ≡ true = h.0 in grind (arith, nat_tests)

position_dot : (xs ys : List ℕ) → Without 46 xs → position (λ b. eqb b 46) (xs ++ 46 ∷ ys) ≡ Some (length xs)
position_dot xs ys h =
    let longer : length xs < length (xs ++ 46 ∷ ys) = omega (arith, length-append xs (46 ∷ ys)) in
    let test : ltb (length xs) (length (xs ++ 46 ∷ ys)) ≡ true = grind (arith, nat_tests) in
    rw (dot_at xs ys h, test) refl

drop_past : (xs ys : List ℕ) → drop (length xs + 1) (xs ++ 46 ∷ ys) ≡ ys
drop_past [] ys = refl
drop_past (x ∷ xs) ys = let e : suc (length xs) + 1 ≡ suc (length xs + 1) = omega arith in rw e (drop_past xs ys)

scaled_worth : ℕ → List ℕ → List ℕ → ℕ
scaled_worth most whole places = worth whole * 10 ^ most + worth places * 10 ^ (most - length places)

split_value : (most : ℕ) (whole places : List ℕ) → AreDigits whole → 0 < length whole → length whole ≤ 9 → AreDigits places → 0 < length places → length places ≤ most →
    split_at_dot most (whole ++ 46 ∷ places) (position (λ b. eqb b 46) (whole ++ 46 ∷ places)) ≡ Some (scaled_worth most whole places)
unfolding split_at_dot scaled_worth
split_value most whole places h some few k some_too few_too =
    rw (position_dot whole places (no_dot whole h), take_at whole (46 ∷ places) (length whole) refl, drop_past whole places, natural_value 9 whole h some few, natural_value most places k some_too few_too) refl

decimal_value : (most : ℕ) (minus : Bool) (whole places : List ℕ) → AreDigits whole → 0 < length whole → length whole ≤ 9 → AreDigits places → 0 < length places → length places ≤ most →
    decimal_of most (decimal_text minus whole places) ≡ Some (with_sign minus (scaled_worth most whole places))
unfolding decimal_of
decimal_value most true whole places h some few k some_too few_too = rw (split_value most whole places h some few k some_too few_too) refl
decimal_value most false whole places h some few k some_too few_too = rw (no_minus whole (46 ∷ places) h some, split_value most whole places h some few k some_too few_too) refl

worth_append : (a b : List ℕ) → worth (a ++ b) ≡ worth a * 10 ^ length b + worth b
worth_append [] b = omega arith
worth_append (d ∷ a) b =
    let more = worth_append a b in
    let power : 10 ^ length (a ++ b) ≡ 10 ^ length a * 10 ^ length b = ap (λ (k : ℕ). 10 ^ k) (length-append a b) ∙ pow-add 10 (length a) (length b) in
    let one = mul_assoc (d - 48) (10 ^ length a) (10 ^ length b) in
    let two = add-mul ((d - 48) * 10 ^ length a) (worth a) (10 ^ length b) in
    rw (power, more) (omega (arith, one, two))

out : (w p most len front : ℕ) → (w * most + p * front) * len ≡ w * len * most + p * (front * len)
out w p most len front = grind arith

multiplied : (most : ℕ) (whole places : List ℕ) → length places ≤ most → scaled_worth most whole places * 10 ^ length places ≡ worth (whole ++ places) * 10 ^ most
unfolding scaled_worth
multiplied most whole places few =
    let power : 10 ^ (most - length places) * 10 ^ length places ≡ 10 ^ most = sym (pow-add 10 (most - length places) (length places)) ∙ ap (λ (k : ℕ). 10 ^ k) (omega arith) in
    rw (worth_append whole places) (out (worth whole) (worth places) (10 ^ most) (10 ^ length places) (10 ^ (most - length places)) ∙ rw power (sym (add-mul (worth whole * 10 ^ length places) (worth places) (10 ^ most))))

pub exact : CoordinatesAreExact
exact most minus whole places h some few k some_too few_too =
    (scaled_worth most whole places, decimal_value most minus whole places h some few k some_too few_too, multiplied most whole places few_too)
