-- A number is read from its decimal text and from no other word.
use Rattle.std.proofs.Common.{◌≡◌, ◌∙◌, ap, sym, subst, refl, arith, ℕ, ◌+◌, ◌-◌, ◌*◌, ◌^◌, ◌<◌, ◌≤◌, Bool, true, false, ◌&&◌, List, [], ◌∷◌, length, get_or, Some, None}
use Rattle.std.specs.Prelude.{decimal, nat_le, nat_lt, ◌==◌, if◌then◌else◌}
use Rattle.std.proofs.lemmas.Bool.Decides.{nat_tests}
use Rattle.std.proofs.lemmas.Bool.{and_parts, leb-true, le-leb}
use Rattle.std.proofs.lemmas.Fmt.{decimal_is_IsNumeral, decimal-digits_value, first_decimal, length-decimal-le}
use Rattle.std.proofs.lemmas.Str.{digit_value_digit}
use Rattle.std.proofs.lemmas.Str.Parse.{numerals_by_value, tells_digits, digit_from_value}
use Rattle.std.specs.Char.{digit_value, is_ascii_digit}
use Rattle.std.specs.Int.{IsInRange}
use Rattle.std.specs.Str.Parse.{AllDigits, digits_value_after}
use Rattle.gh_base.specs.Decimals.{digits_from, natural_of}
use Rattle.gh_words.specs.Words.{begins_with_zero}

-- what the digits of a text spell is std's value of them
told : (n m : ℕ) (xs : List ℕ) → digits_from n xs ≡ Some m → AllDigits 10 xs × (digits_value_after 10 n xs ≡ m)
told n m [] e = (tt, cc)
told n m (x ∷ xs) e = by (λ k. told k m xs) (is_ascii_digit x) refl e
  where
    by : ((k : ℕ) → digits_from k xs ≡ Some m → AllDigits 10 xs × (digits_value_after 10 k xs ≡ m)) → (b : Bool) → is_ascii_digit x ≡ b → (if b then digits_from (10 * n + (x - 48)) xs else None) ≡ Some m → AllDigits 10 (x ∷ xs) × (digits_value_after 10 n (x ∷ xs) ≡ m)
    by more true digit rest =
        let both = and_parts _ _ digit in
        let range : IsInRange 48 57 x = (leb-true 48 x both.0, leb-true x 57 both.1) in
        let value = digit_value_digit x range in
        let same : 10 * n + (x - 48) ≡ n * 10 + digit_value x = omega (arith, value) in
        let those = more (n * 10 + digit_value x) (subst (λ k. digits_from k xs ≡ Some m) same rest) in
        ((omega (arith, value, range.1), those.0), those.1)
    by more false digit rest = cc

-- and the other way round
spells : (n : ℕ) (xs : List ℕ) → AllDigits 10 xs → digits_from n xs ≡ Some (digits_value_after 10 n xs)
spells n [] d = refl
spells n (x ∷ xs) d =
    let range = digit_from_value x d.0 in
    let value = digit_value_digit x range in
    let same : 10 * n + (x - 48) ≡ n * 10 + digit_value x = omega (arith, value) in
    let digit : is_ascii_digit x ≡ true = rw (le-leb 48 x range.0, le-leb x 57 range.1) refl in
    rw digit (ap (λ k. digits_from k xs) same ∙ spells (n * 10 + digit_value x) xs d.1)

starts_otherwise : (word : List ℕ) → begins_with_zero word ≡ false → 0 < length word → get_or word 0 0 ≡ 48 → length word ≡ 1
starts_otherwise [] other some zero = absurd (omega (arith, some))
starts_otherwise (b ∷ bytes) other some zero = absurd (let o : (48 == 48) ≡ false = subst (λ k. (k == 48) ≡ false) zero other in cc)

-- a number of digits without leading zeros is spelled by its decimal text
pub spelled : (word : List ℕ) (n : ℕ) → begins_with_zero word ≡ false → natural_of 3 word ≡ Some n → n < 2 ^ 64 → word ≡ decimal n
unfolding natural_of
spelled word n other natural small = by (nat_lt 0 (length word)) refl (nat_le (length word) 3) natural
  where
    by : (a : Bool) → nat_lt 0 (length word) ≡ a → (b : Bool) → (if a && b then digits_from 0 word else None) ≡ Some n → word ≡ decimal n
    by true some true e =
        let t = told 0 n word e in
        let long : 0 < length word = grind (arith, nat_tests) in
        let text = decimal-digits_value (numerals_by_value _ tells_digits) word t.0 long (starts_otherwise word other long) (omega (arith, t.1, small)) in
        sym text ∙ ap decimal t.1
    by true some false e = cc
    by false some b e = cc

starts_so : (word : List ℕ) → 48 < get_or word 0 0 → begins_with_zero word ≡ false
starts_so [] high = refl
starts_so (b ∷ bytes) high = grind (arith, nat_tests)

-- and from its decimal text each number of at most three digits is read
pub reads : (word : List ℕ) (n : ℕ) → 1 ≤ n → n ≤ 999 → word ≡ decimal n → (begins_with_zero word ≡ false) × (natural_of 3 word ≡ Some n)
unfolding natural_of
reads word n least most text =
    let numeral = decimal_is_IsNumeral n (omega (arith, most)) in
    let other : begins_with_zero (decimal n) ≡ false = starts_so (decimal n) (first_decimal n (omega (arith, least)) (omega (arith, most))) in
    let some : nat_lt 0 (length (decimal n)) ≡ true = let l = numeral.0.0 in grind (arith, nat_tests) in
    let short : nat_le (length (decimal n)) 3 ≡ true = le-leb _ _ (length-decimal-le 3 n (omega arith) (omega (arith, most)) (omega (arith, most))) in
    let digits : digits_from 0 (decimal n) ≡ Some n = spells 0 (decimal n) numeral.0.1 ∙ ap Some numeral.1 in
    rw text (other, rw (some, short) digits)
