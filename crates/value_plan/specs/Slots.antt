-- Slots of values among the 128 bits of an edge (GraphHopper, "EncodedValue" and "IntsRef").
use Rattle.std.specs.Prelude.{◌≡◌, ◌≢◌, ℕ, ◌+◌, ◌*◌, ◌/◌, ◌%◌, ◌^◌, ◌≤◌, ◌⊎◌, Bool, ◌&&◌, if◌then◌else◌, List, sum_by, All, AllPairs}

-- a slot: its first bit, how many bits a value has, and whether each direction has a value of its own
pub record Place : Type 0 where
  pub first : ℕ
  pub bits : ℕ
  pub directed : Bool

-- how many bits a slot takes: twice those of its value where each direction has one
abbrev pub width_of : ℕ → Bool → ℕ
width_of bits directed = if directed then 2 * bits else bits

abbrev pub width : Place → ℕ
width slot = width_of slot.bits slot.directed

-- the bit behind its last
abbrev pub end_of : Place → ℕ
end_of slot = slot.first + width slot

-- the sum of the widths of slots
abbrev pub bits_of : List Place → ℕ
bits_of slots = sum_by width slots

-- a slot right behind others
abbrev pub behind : List Place → ℕ → Bool → Place
behind slots bits directed = record { first = bits_of slots; bits = bits; directed = directed }

-- no bit is of both slots
abbrev pub AreApart : Place → Place → Type 0
AreApart a b = (end_of a ≤ b.first) ⊎ (end_of b ≤ a.first)

-- a value has 1 to 32 bits, and the slot ends within the 128
pub record IsInWords (slot : Place) : Type 0 where
  pub some : 1 ≤ slot.bits
  pub few : slot.bits ≤ 32
  pub inside : end_of slot ≤ 128

-- slots share no bit, and lie within so many bits, which are the sum of their widths
pub record AreSideBySide (slots : List Place) (used : ℕ) : Type 0 where
  pub apart : AllPairs AreApart slots
  pub inside : All (λ slot. end_of slot ≤ used) slots
  pub sum : bits_of slots ≡ used
  pub few : used ≤ 128

-- the first bit of a value: that of the reverse direction stands behind that of the forward one, and is
-- the same where a slot isn't directed
abbrev pub first_in : Place → Bool → ℕ
first_in slot reverse = if slot.directed && reverse then slot.first + slot.bits else slot.first

-- four words as one number, the first word lowest
abbrev pub number_of : (ℕ → ℕ) → ℕ
number_of word = word 0 + 2 ^ 32 * word 1 + 2 ^ 64 * word 2 + 2 ^ 96 * word 3

-- the value of a slot in a direction, of so many bits of a number, and of an edge's words
abbrev pub value_of : ℕ → Place → Bool → ℕ
value_of number slot reverse = number / 2 ^ first_in slot reverse % 2 ^ slot.bits

abbrev pub value_in : (ℕ → ℕ) → Place → Bool → ℕ
value_in word slot reverse = value_of (number_of word) slot reverse

-- the words of no other edge change
abbrev pub ChangesOnly : ℕ → (ℕ → ℕ → ℕ) → (ℕ → ℕ → ℕ) → Type 0
ChangesOnly edge old new = (other index : ℕ) → other ≢ edge → new other index ≡ old other index
