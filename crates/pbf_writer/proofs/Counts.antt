-- How many bytes are written.
use Rattle.std.proofs.lemmas.Bool.{cases_Bool}
use Rattle.std.proofs.lemmas.Bool.Decides.{nat_tests}
use Rattle.std.proofs.Math.Nat.{pow-suc}
use Rattle.std.proofs.Common.{◌≡◌, ℕ, ◌+◌, ◌*◌, ◌/◌, ◌%◌, ◌^◌, ◌<◌, ◌≤◌, inl, inr, zero, suc, List, [], ◌∷◌, length, true, false, ltb, arith, length-append}
use Rattle.pbf_wire.specs.Put.{bytes_in, varint_bytes, bytes_field}
use Rattle.pbf_wire.specs.Parts.{Part, part_text}
use Rattle.pbf_wire.specs.Writing.{header_text}

-- so many bytes are counted, the last for what is left, and those of what is left are the rest
pub record IsCounted (size left whole : ℕ) : Type 0 where
  pub most : ℕ
  pub small : left < 128 ^ suc most
  pub room : size + most ≤ 10
  pub same : size + length (bytes_in (suc most) left) ≡ whole + 1

pub start_count : (value : ℕ) → value < 2 ^ 64 → IsCounted 1 value (length (varint_bytes value))
unfolding varint_bytes
start_count value small = record { most = 9; small = omega arith; room = omega arith; same = omega arith }

more_of : (most size left whole : ℕ) → left < 128 ^ suc most → size + most ≤ 10 → size + length (bytes_in (suc most) left) ≡ whole + 1 → 128 ≤ left → IsCounted (size + 1) (left / 128) whole
more_of zero size left whole small room same big = absurd (omega arith)
more_of (suc most) size left whole small room same big =
    let test : ltb left 128 ≡ false = grind (arith, nat_tests) in
    let opened : size + length ((left % 128 + 128) ∷ bytes_in (suc most) (left / 128)) ≡ whole + 1 = (rw test at same) in
    let next : 128 ^ suc (suc most) ≡ 128 ^ suc most * 128 = pow-suc 128 (suc most) in
    record { most = most; small = omega arith; room = omega arith; same = omega arith }

pub more_count : (size left whole : ℕ) → IsCounted size left whole → 128 ≤ left → IsCounted (size + 1) (left / 128) whole
more_count size left whole p big = more_of p.most size left whole p.small p.room p.same big

pub end_count : (size left whole : ℕ) → IsCounted size left whole → left < 128 → size ≡ whole
end_count size left whole p low =
    let test : ltb left 128 ≡ true = grind (arith, nat_tests) in
    let opened : size + length (left ∷ []) ≡ whole + 1 = (rw test at p.same) in
    omega arith

pub few_count : (size left whole : ℕ) → IsCounted size left whole → size ≤ 10
few_count size left whole p = omega (arith, p.room)

bytes_in_most : (most n : ℕ) → length (bytes_in most n) ≤ most
bytes_in_most zero n = omega arith
bytes_in_most (suc most) n = elim (cases_Bool (ltb n 128)) [
  | inl t ↦ rw t (omega arith)
  | inr f ↦ rw f (omega (arith, bytes_in_most most (n / 128)))
]

pub varint_most : (n : ℕ) → length (varint_bytes n) ≤ 10
unfolding varint_bytes
varint_most n = bytes_in_most 10 n

pub field_most : (number : ℕ) (content : List ℕ) → length (bytes_field number content) ≤ length content + 20
unfolding bytes_field
field_most number content = omega (arith, varint_most (8 * number + 2), varint_most (length content), length-append {A = ℕ})

pub number_most : (number value : ℕ) → length (part_text (Part.Number number value)) ≤ 20
number_most number value = omega (arith, varint_most (8 * number), varint_most value, length-append {A = ℕ})

-- a BlobHeader is short
pub header_most : (name : List ℕ) (size : ℕ) → length (header_text name size) ≤ length name + 40
header_most name size = omega (arith, field_most 1 name, number_most 3 size, length-append {A = ℕ})
