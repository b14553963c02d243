-- Printed numbers are read again.
use Rattle.std.proofs.Common.{◌≡◌, ◌∙◌, ℕ, suc, ℤ, pos, negsuc, ◌+◌, ◌-◌, ◌*◌, ◌/◌, ◌%◌, ◌^◌, ◌<◌, ◌≤◌, List, [], ◌∷◌, ◌++◌, length, length-append, ltb, leb, Option, Some, None, Bool, true, false, cond, refl, ap, arith}
use Rattle.std.specs.Char.{is_ascii_digit}
use Rattle.std.specs.Fmt.{decimal, signed_decimal}
use Rattle.std.proofs.lemmas.Bool.{ne_eqb}
use Rattle.std.proofs.lemmas.Bool.Decides.{nat_tests}
use Rattle.std.proofs.lemmas.Fmt.{decimal_by_steps, length-decimal-le}
use Rattle.gh_base.specs.Decimals.{digits_from, natural_of, id_of, is_minus}
use Rattle.gh_base.specs.Maps.{IsShort}
use Rattle.plain_map.proofs.Splits.{Each, each_append}

pub record IsDigit (b : ℕ) : Type 0 where
  pub low : 48 ≤ b
  pub high : b ≤ 57

pub digit_test : (b : ℕ) → IsDigit b → is_ascii_digit b ≡ true
digit_test b h = grind (arith, nat_tests)

pick : (t : Bool) (m : ℕ) (p q r : Option ℕ) → cond t p None ≡ Some m → (p ≡ Some m → q ≡ r) → cond t q None ≡ r
pick true m p q r h f = f h
pick false m p q r h f = cc

-- digits behind digits
pub digits_append : (a m : ℕ) (xs ys : List ℕ) → digits_from a xs ≡ Some m → digits_from a (xs ++ ys) ≡ digits_from m ys
digits_append a m [] ys h = let e : a ≡ m = cc in rw e refl
digits_append a m (x ∷ xs) ys h = pick (is_ascii_digit x) m _ _ _ h (λ k. digits_append (10 * a + (x - 48)) m xs ys k)

pub one_digit : (a d : ℕ) → d < 10 → digits_from a ((48 + d) ∷ []) ≡ Some (10 * a + d)
one_digit a d h = let digit : IsDigit (48 + d) = record { low = omega arith; high = omega arith } in rw (digit_test (48 + d) digit) (ap Some (omega arith))

pub record Spells (n : ℕ) (ds : List ℕ) : Type 0 where
  pub value : digits_from 0 ds ≡ Some n
  pub each : Each IsDigit ds
  pub some : 0 < length ds

spells_one : (n : ℕ) → n < 10 → Spells n ((48 + n) ∷ [])
spells_one n h = record { value = one_digit 0 n h ∙ ap Some (omega arith); each = (record { low = omega arith; high = omega arith }, tt); some = omega arith }

spells_more : (n : ℕ) (ds : List ℕ) → 10 ≤ n → Spells (n / 10) ds → Spells n (ds ++ ((48 + n % 10) ∷ []))
spells_more n ds h p = record {
  value = digits_append 0 (n / 10) ds ((48 + n % 10) ∷ []) p.value ∙ one_digit (n / 10) (n % 10) (omega arith) ∙ ap Some (omega arith);
  each = each_append IsDigit ds _ p.each (record { low = omega arith; high = omega arith }, tt);
  some = omega (arith, length-append ds ((48 + n % 10) ∷ []));
}

pub decimal_spells : (n : ℕ) → n < 2 ^ 64 → Spells n (decimal n)
decimal_spells n h = decimal_by_steps Spells spells_one spells_more n h

pub natural_spelled : (most n : ℕ) (ds : List ℕ) → Spells n ds → length ds ≤ most → natural_of most ds ≡ Some n
unfolding natural_of
natural_spelled most n ds p le =
    let some : ltb 0 (length ds) ≡ true = grind (arith, nat_tests, p.some) in
    let few : leb (length ds) most ≡ true = grind (arith, nat_tests) in
    rw (some, few) p.value

pub no_minus : (ds : List ℕ) → Each IsDigit ds → is_minus ds ≡ false
no_minus [] h = refl
no_minus (b ∷ ds) h = ne_eqb b 45 (λ e. omega (arith, h.0.low))

id_positive : (n : ℕ) → n < 10 ^ 18 → id_of (decimal n) ≡ Some (pos n)
unfolding id_of
id_positive n h =
    let p = decimal_spells n (omega arith) in
    rw (no_minus (decimal n) p.each, natural_spelled 18 n (decimal n) p (length-decimal-le 18 n (omega arith) h (omega arith))) refl

id_negative : (n : ℕ) → suc n < 10 ^ 18 → id_of (45 ∷ decimal (suc n)) ≡ Some (negsuc n)
unfolding id_of
id_negative n h =
    let p = decimal_spells (suc n) (omega arith) in
    rw (natural_spelled 18 (suc n) (decimal (suc n)) p (length-decimal-le 18 (suc n) (omega arith) h (omega arith))) refl

pub id_again : (z : ℤ) → IsShort z → id_of (signed_decimal z) ≡ Some z
id_again (pos n) h = id_positive n h
id_again (negsuc n) h = id_negative n h
