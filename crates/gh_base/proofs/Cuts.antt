-- The first part of a list, round a byte.
use Rattle.std.proofs.Common.{◌≡◌, ℕ, ◌+◌, ◌<◌, List, [], ◌∷◌, length, take, drop, Some, None, Bool, true, false, cond, eqb, ltb, refl, arith, length-drop, length-take, IsUtf8}
use Rattle.std.specs.Prelude.{position}
use Rattle.std.specs.List.{slice_split, position_or_len, before_first, after_first}
use Rattle.std.specs.Str.{IsValidUpTo}
use Rattle.std.specs.Str.Lossy.{utf8_valid_len}
use Rattle.std.proofs.lemmas.Bool.{eq-eqb}
use Rattle.std.proofs.lemmas.Bool.Decides.{nat_tests}
use Rattle.std.proofs.lemmas.List.Sums.{fails_before_first}
use Rattle.std.proofs.lemmas.List.Splits.{slice_split_none, slice_split_first}
use Rattle.std.proofs.lemmas.Option.{cond_some}
use Rattle.std.proofs.lemmas.Str.{utf8_valid_len-IsUtf8}

-- no part ends
pub first_of_none : (p : ℕ → Bool) (xs : List ℕ) → position_or_len p xs ≡ length xs → slice_split p xs ≡ xs ∷ []
first_of_none p xs e = slice_split_none p xs (λ k d lt. fails_before_first p xs k d (omega arith))

pub first_of_some : (p : ℕ → Bool) (xs front rest : List ℕ) → position_or_len p xs < length xs → front ≡ before_first p xs → rest ≡ after_first p xs → (slice_split p xs ≡ front ∷ slice_split p rest) × (length front + (length rest + 1) ≡ length xs)
first_of_some p xs front rest lt e f = rw (e, f) (slice_split_first p xs 0 lt, omega (arith, length-drop (position_or_len p xs + 1) xs, length-take (position_or_len p xs) xs))

past : (b : Bool) (n : ℕ) → cond b (Some n) None ≡ None → b ≡ false
past true n h = cc
past false n h = refl

-- where no byte passes, the list is the one part
pub one_part : (p : ℕ → Bool) (xs : List ℕ) → position p xs ≡ None → slice_split p xs ≡ xs ∷ []
one_part p xs h =
    let end : ltb (position_or_len p xs) (length xs) ≡ false = past _ _ h in
    slice_split_none p xs (λ k d lt. fails_before_first p xs k d (grind (arith, nat_tests)))

-- where one passes, the first part ends there
pub part_of_more : (p : ℕ → Bool) (xs : List ℕ) (n : ℕ) → position p xs ≡ Some n → (n < length xs) × (slice_split p xs ≡ take n xs ∷ slice_split p (drop (n + 1) xs))
part_of_more p xs n h =
    let at = cond_some (ltb (position_or_len p xs) (length xs)) (position_or_len p xs) n h in
    let lt : position_or_len p xs < length xs = grind (arith, nat_tests) in
    rw (← at.1) (lt, slice_split_first p xs 0 lt)

pub valid_all : (bs : List ℕ) → IsUtf8 bs → eqb (utf8_valid_len bs) (length bs) ≡ true
valid_all bs h = eq-eqb (utf8_valid_len bs) (length bs) (utf8_valid_len-IsUtf8 bs h)

-- what is cut before its end is not all text
pub not_same : (bs : List ℕ) (n : ℕ) → ¬ (IsUtf8 bs) → IsValidUpTo bs n → n ≡ utf8_valid_len bs → (n < length bs) × (eqb (utf8_valid_len bs) (length bs) ≡ false)
not_same bs n bad valid e = let short : n < length bs = valid.short in (short, grind (arith, nat_tests))
