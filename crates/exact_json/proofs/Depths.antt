-- Values by their depth, beside calls that count down.
use Rattle.std.proofs.Common.{◌≡◌, ℕ, zero, suc, ◌-◌, ◌<◌, List, refl, arith}
use Rattle.exact_json.specs.Parsing.{◌>>◌, front}
use Rattle.exact_json.specs.Tokens.{take_byte}
use Rattle.exact_json.specs.Values.{value_at, value_with, array, object, first_of, numeral}
use Rattle.exact_json.specs.declared.reader.First.TheVariants.{Number}

pub deeper : (n : ℕ) (i : List ℕ) → 0 < n → value_at n i ≡ value_with (take_byte >> array (value_at (n - 1))) (take_byte >> object (value_at (n - 1))) i
unfolding value_at
deeper zero i some = absurd (omega arith)
deeper (suc n) i some = let e : suc n - 1 ≡ n = omega arith in rw e refl

pub at_number : (n : ℕ) (i : List ℕ) → first_of (front i) ≡ Number → value_at n i ≡ numeral i
unfolding value_at
at_number zero i e = rw e refl
at_number (suc n) i e = rw e refl
