-- A set with one more number.
use Rattle.std.proofs.Common.{◌≡◌, ℕ, ◌*◌, ◌/◌, ◌%◌, ◌^◌, ◌<◌, ◌≢◌, true, List, length, get_or, set, bit_or, arith, inl, inr, get_or-set_same, get_or-set_other}
use Rattle.std.proofs.lemmas.Bool.{cases_eq}
use Rattle.std.proofs.lemmas.Nat.Bits.{bit_at_set_same, bit_at_set_other}
use Rattle.std.specs.Int.{w64}
use Rattle.location_grid.specs.Bits.{has_bit}

pub added : (words : List ℕ) (n word : ℕ) → n / 64 < length words → has_bit (set words (n / 64) (bit_or word (1 * 2 ^ (n % 64) % 18446744073709551616))) n ≡ true
added words n word there = rw get_or-set_same (rw (bit_at_set_same w64 word (n % 64) (omega arith)))

pub others : (words : List ℕ) (n word other : ℕ) → n / 64 < length words → word ≡ get_or words (n / 64) 0 → other ≢ n
    → has_bit (set words (n / 64) (bit_or word (1 * 2 ^ (n % 64) % 18446744073709551616))) other ≡ has_bit words other
others words n word other there is apart = elim (cases_eq (other / 64) (n / 64)) [
  | inl same ↦
      let bits : other % 64 ≢ n % 64 = λ e. apart (omega arith) in
      rw (same, get_or-set_same) (rw (bit_at_set_other w64 word (n % 64) (omega arith) (other % 64) bits, is))
  | inr else ↦ let ne : other / 64 ≢ n / 64 = else in rw get_or-set_other
]
