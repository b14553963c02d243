-- Printed coordinates are read again.
use Rattle.std.proofs.Common.{◌≡◌, ◌∙◌, ℕ, zero, suc, ℤ, pos, negsuc, ◌+◌, ◌-◌, ◌*◌, ◌/◌, ◌%◌, ◌^◌, ◌<◌, ◌≤◌, List, [], ◌∷◌, ◌++◌, length, length-append, drop, Some, None, Bool, true, false, cond, eqb, ltb, leb, nat_abs, Ok, refl, ap, sym, arith, append-nil, div-add-mod'}
use Rattle.std.specs.Prelude.{position}
use Rattle.std.specs.List.{position_or_len}
use Rattle.std.specs.Fmt.{decimal}
use Rattle.std.proofs.lemmas.Bool.{eqb-true, ne_eqb}
use Rattle.std.proofs.lemmas.Bool.Decides.{nat_tests}
use Rattle.std.proofs.lemmas.Fmt.{length-decimal-le}
use Rattle.std.proofs.lemmas.List.{take_at}
use Rattle.std.proofs.lemmas.Nat.{pow-add}
use Rattle.std.proofs.Math.Nat.{add-mul, mul_assoc, pow-suc, mod-lt, div-lt_iff_lt-mul}
use Rattle.gh_base.specs.Decimals.{digits_from, split_at_dot, decimal_of, is_minus}
use Rattle.plain_map.specs.Printing.{places_text, dotted, degrees_text, coordinate_text}
use Rattle.plain_map.specs.Fields.{coordinate_at}
use Rattle.plain_map.proofs.Digits.{some_power}
use Rattle.plain_map.proofs.Splits.{Each, each_more}
use Rattle.plain_map.proofs.PrintedNumbers.{IsDigit, Spells, digit_test, decimal_spells, natural_spelled}

-- digits behind the dot spell this number of the last place
pub record SpellsPlaces (k n : ℕ) (ds : List ℕ) : Type 0 where
  pub value : ℕ
  pub reads : (a : ℕ) → digits_from a ds ≡ Some (a * 10 ^ length ds + value)
  pub few : length ds ≤ k
  pub scaled : value * 10 ^ (k - length ds) ≡ n
  pub each : Each IsDigit ds

-- one digit more in front
regroup : (a d p m : ℕ) → (10 * a + d) * p + m ≡ a * (p * 10) + (d * p + m)
regroup a d p m =
    let e = add-mul (10 * a) d p in
    let f = mul_assoc 10 a p in
    let g = mul_assoc a p 10 in
    omega (arith, e, f, g)

scale : (d p m e t rest : ℕ) → p * e ≡ t → m * e ≡ rest → (d * p + m) * e ≡ d * t + rest
scale d p m e t rest f g = add-mul (d * p) m e ∙ rw (g, mul_assoc d p e, f) refl

places_zero : (k n : ℕ) → n ≡ 0 → SpellsPlaces k n []
places_zero k n e = record { value = 0; reads = λ a. ap Some (omega arith); few = omega arith; scaled = rw e (omega arith); each = tt }

places_step : (k n : ℕ) (ds : List ℕ) → n < 10 ^ suc k → SpellsPlaces k (n % 10 ^ k) ds → SpellsPlaces (suc k) n ((48 + n / 10 ^ k) ∷ ds)
places_step k n ds h p =
    let some : 0 < 10 ^ k = some_power k in
    let step : 10 ^ suc k ≡ 10 ^ k * 10 = pow-suc 10 k in
    let below : n < 10 * 10 ^ k = omega (arith, step) in
    let small : n / 10 ^ k < 10 = (div-lt_iff_lt-mul some).1 below in
    let digit : IsDigit (48 + n / 10 ^ k) = record { low = omega arith; high = omega arith } in
    let less : suc k - suc (length ds) ≡ k - length ds = omega arith in
    let all : 10 ^ length ds * 10 ^ (k - length ds) ≡ 10 ^ k = sym (pow-add 10 (length ds) (k - length ds)) ∙ ap (λ e. 10 ^ e) (omega (arith, p.few)) in
    let back : n / 10 ^ k * 10 ^ k + n % 10 ^ k ≡ n = div-add-mod' n (10 ^ k) in
    let digit_is : (a : ℕ) → 10 * a + (48 + n / 10 ^ k - 48) ≡ 10 * a + n / 10 ^ k = λ a. omega arith in
    record {
      value = n / 10 ^ k * 10 ^ length ds + p.value;
      reads = λ a. rw (digit_test (48 + n / 10 ^ k) digit) (ap (λ x. digits_from x ds) (digit_is a) ∙ p.reads (10 * a + n / 10 ^ k) ∙ ap Some (regroup a (n / 10 ^ k) (10 ^ length ds) p.value ∙ ap (λ x. a * x + (n / 10 ^ k * 10 ^ length ds + p.value)) (sym (pow-suc 10 (length ds)))));
      few = omega (arith, p.few);
      scaled = rw less (scale (n / 10 ^ k) (10 ^ length ds) p.value (10 ^ (k - length ds)) (10 ^ k) (n % 10 ^ k) all p.scaled ∙ back);
      each = (digit, p.each);
    }

places_by : (t : Bool) (k n : ℕ) (ds : List ℕ) → eqb n 0 ≡ t → n < 10 ^ suc k → SpellsPlaces k (n % 10 ^ k) ds → SpellsPlaces (suc k) n (cond t [] ((48 + n / 10 ^ k) ∷ ds))
places_by true k n ds e h p = places_zero (suc k) n (eqb-true n 0 e)
places_by false k n ds e h p = places_step k n ds h p

pub places_spelled : (k n : ℕ) → n < 10 ^ k → SpellsPlaces k n (places_text k n)
unfolding places_text
places_spelled zero n h = places_zero zero n (omega arith)
places_spelled (suc k) n h = places_by (eqb n 0) k n (places_text k (n % 10 ^ k)) refl h (places_spelled k (n % 10 ^ k) (mod-lt n (some_power k)))

no_dot : (ds : List ℕ) → Each IsDigit ds → Each (λ b. eqb b 46 ≡ false) ds
no_dot ds h = each_more IsDigit _ (λ b k. ne_eqb b 46 (λ e. omega (arith, k.low))) ds h

-- where the dot stands
pub dot_at : (xs ys : List ℕ) → Each (λ b. eqb b 46 ≡ false) xs → position_or_len (λ b. eqb b 46) (xs ++ 46 ∷ ys) ≡ length xs
dot_at [] ys h = refl
dot_at (x ∷ xs) ys h = let e = dot_at xs ys h.1 in rw h.0 (omega (arith, e))

pub dot_none : (xs : List ℕ) → Each (λ b. eqb b 46 ≡ false) xs → position_or_len (λ b. eqb b 46) xs ≡ length xs
dot_none [] h = refl
dot_none (x ∷ xs) h = let e = dot_none xs h.1 in rw h.0 (omega (arith, e))

not_below : (n : ℕ) → ltb n n ≡ false
not_below n = grind (arith, nat_tests)

position_none : (xs : List ℕ) → Each (λ b. eqb b 46 ≡ false) xs → position (λ b. eqb b 46) xs ≡ None
position_none xs h = rw (dot_none xs h, not_below (length xs)) refl

position_dot : (xs ys : List ℕ) → Each (λ b. eqb b 46 ≡ false) xs → position (λ b. eqb b 46) (xs ++ 46 ∷ ys) ≡ Some (length xs)
position_dot xs ys h =
    let longer : length xs < length (xs ++ 46 ∷ ys) = omega (arith, length-append xs (46 ∷ ys)) in
    let test : ltb (length xs) (length (xs ++ 46 ∷ ys)) ≡ true = grind (arith, nat_tests) in
    rw (dot_at xs ys h, test) refl

drop_past : (xs ys : List ℕ) → drop (length xs + 1) (xs ++ 46 ∷ ys) ≡ ys
drop_past [] ys = refl
drop_past (x ∷ xs) ys = let e : suc (length xs) + 1 ≡ suc (length xs + 1) = omega arith in rw e (drop_past xs ys)

none_left : (value : ℕ) → digits_from 0 [] ≡ Some (0 * 10 ^ length {A = ℕ} [] + value) → value ≡ 0
none_left value e = let k : 0 ≡ 0 * 1 + value = cc in omega (arith, k)

with_places : (q r : ℕ) (xs places : List ℕ) → Spells q xs → length xs ≤ 9 → SpellsPlaces 7 r places → split_at_dot 7 (xs ++ dotted places) (position (λ b. eqb b 46) (xs ++ dotted places)) ≡ Some (q * 10 ^ 7 + r)
unfolding split_at_dot
with_places q r xs [] s few p =
    let e = p.reads 0 in
    let zero_value : p.value ≡ 0 = none_left p.value e in
    let none : r ≡ 0 = omega (arith, p.scaled, zero_value) in
    rw (append-nil xs, position_none xs (no_dot xs s.each), natural_spelled 9 q xs s few) (ap Some (omega arith))
with_places q r xs (b ∷ bs) s few p =
    let value : digits_from 0 (b ∷ bs) ≡ Some p.value = p.reads 0 ∙ ap Some (omega arith) in
    let spelled : Spells p.value (b ∷ bs) = record { value = value; each = p.each; some = omega arith } in
    rw (position_dot xs (b ∷ bs) (no_dot xs s.each), take_at xs (46 ∷ b ∷ bs) (length xs) refl, drop_past xs (b ∷ bs), natural_spelled 9 q xs s few, natural_spelled 7 p.value (b ∷ bs) spelled p.few)
    (ap (λ x. Some (q * 10 ^ 7 + x)) p.scaled)

no_minus_front : (xs ys : List ℕ) → Each IsDigit xs → 0 < length xs → is_minus (xs ++ ys) ≡ false
no_minus_front [] ys h some = absurd (omega arith)
no_minus_front (b ∷ xs) ys h some = ne_eqb b 45 (λ e. omega (arith, h.0.low))

degrees_split : (n : ℕ) → n < 10 ^ 16 → split_at_dot 7 (degrees_text n) (position (λ b. eqb b 46) (degrees_text n)) ≡ Some n
degrees_split n h =
    let q = n / 10000000 in
    let r = n % 10000000 in
    let small : q < 10 ^ 9 = omega arith in
    let whole = decimal_spells q (omega arith) in
    let places = places_spelled 7 r (omega arith) in
    with_places q r (decimal q) (places_text 7 r) whole (length-decimal-le 9 q (omega arith) small (omega arith)) places ∙ ap Some (omega arith)

degrees_positive : (n : ℕ) → n < 10 ^ 16 → is_minus (degrees_text n) ≡ false
degrees_positive n h =
    let whole = decimal_spells (n / 10000000) (omega arith) in
    no_minus_front (decimal (n / 10000000)) (dotted (places_text 7 (n % 10000000))) whole.each whole.some

pub decimal_again : (z : ℤ) → nat_abs z < 10 ^ 16 → decimal_of 7 (coordinate_text z) ≡ Some z
unfolding decimal_of
decimal_again (pos n) h = rw (degrees_positive n h, degrees_split n h) refl
decimal_again (negsuc n) h = rw (degrees_split (suc n) h) refl

pub coordinate_again : (most : ℕ) (z : ℤ) → nat_abs z ≤ most → most ≤ 1800000000 → coordinate_at most (coordinate_text z) ≡ Ok z
unfolding coordinate_at
coordinate_again most z h le =
    let test : leb (nat_abs z) most ≡ true = grind (arith, nat_tests) in
    rw (decimal_again z (omega arith), test) refl
