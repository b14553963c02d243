-- What a slot that is set does to the values of slots.
use Rattle.std.proofs.Common.{◌≡◌, ℕ, ◌+◌, ◌/◌, ◌%◌, ◌^◌, ◌≤◌, inl, inr, Bool, true, false, not, arith}
use Rattle.std.specs.Prelude.{◌&&◌, if◌then◌else◌}
use Rattle.value_plan.specs.Slots.{Place, AreApart, end_of, width_of, first_in}
use Rattle.value_plan.proofs.Bits.{same_above, same_below}

-- the first bit of a value, in a direction
abbrev bit_in : ℕ → ℕ → Bool → Bool → ℕ
bit_in first bits directed reverse = if directed && reverse then first + bits else first

-- it is within its slot
from_first : (first bits : ℕ) (directed reverse : Bool) → first ≤ bit_in first bits directed reverse
from_first first bits true true = omega arith
from_first first bits true false = omega arith
from_first first bits false true = omega arith
from_first first bits false false = omega arith

pub to_end : (first bits : ℕ) (directed reverse : Bool) → bit_in first bits directed reverse + bits ≤ first + width_of bits directed
to_end first bits true true = omega arith
to_end first bits true false = omega arith
to_end first bits false true = omega arith
to_end first bits false false = omega arith

-- a number in which no bits but those of one value are others
pub record Differs (m n a b : ℕ) : Type 0 where
  pub above : m / 2 ^ a / 2 ^ b ≡ n / 2 ^ a / 2 ^ b
  pub below : m % 2 ^ a ≡ n % 2 ^ a

pub differs : (m n result number a at b bits : ℕ) → m ≡ result → n ≡ number → a ≡ at → b ≡ bits → result / 2 ^ at / 2 ^ bits ≡ number / 2 ^ at / 2 ^ bits → result % 2 ^ at ≡ number % 2 ^ at → Differs m n a b
differs m n result number a at b bits p q r s above below = rw (p, q, r, s) (record { above = above; below = below })

-- what shares no bit with the slot stays
pub others_stay : (m n : ℕ) (slot other : Place) (reverse turned : Bool) → Differs m n (first_in slot reverse) slot.bits → AreApart slot other
    → m / 2 ^ first_in other turned % 2 ^ other.bits ≡ n / 2 ^ first_in other turned % 2 ^ other.bits
others_stay m n slot other reverse turned d apart =
    let slot_first : slot.first ≤ first_in slot reverse = from_first slot.first slot.bits slot.directed reverse in
    let slot_end : first_in slot reverse + slot.bits ≤ end_of slot = to_end slot.first slot.bits slot.directed reverse in
    let other_first : other.first ≤ first_in other turned = from_first other.first other.bits other.directed turned in
    let other_end : first_in other turned + other.bits ≤ end_of other = to_end other.first other.bits other.directed turned in
    elim apart [
      | inl before ↦ same_above m n (first_in slot reverse) slot.bits (first_in other turned) other.bits (omega arith) d.above
      | inr behind ↦ same_below m n (first_in slot reverse) (first_in other turned) other.bits (omega arith) d.below
    ]

-- and so does the other direction of a directed slot
pub turned_stays : (m n first bits : ℕ) (directed reverse : Bool) → directed ≡ true → Differs m n (bit_in first bits directed reverse) bits
    → m / 2 ^ bit_in first bits directed (not reverse) % 2 ^ bits ≡ n / 2 ^ bit_in first bits directed (not reverse) % 2 ^ bits
turned_stays m n first bits true true t d = same_below m n (first + bits) first bits (omega arith) d.below
turned_stays m n first bits true false t d = same_above m n first bits (first + bits) bits (omega arith) d.above
turned_stays m n first bits false reverse t d = absurd (cc)
