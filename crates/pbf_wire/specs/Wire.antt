-- Varints and fields at a place (Protocol Buffers, "Encoding": "Base 128 Varints", "Message Structure").
use Rattle.std.specs.Prelude.{ℕ, ◌+◌, ◌-◌, ◌*◌, ◌/◌, ◌%◌, ◌^◌, zero, suc, List, [], ◌∷◌, length, take, drop, Result, Ok, Err, ◌==◌, nat_lt, nat_le, if◌then◌else◌}
use Rattle.pbf_wire.specs.declared.wire.WireKind.{WireKind}
use Rattle.pbf_wire.specs.declared.wire.WireKind.TheVariants.{Long, End, Zero, Wire}
use Rattle.pbf_wire.specs.declared.wire.WireFault.{WireFault}
use Rattle.pbf_wire.specs.declared.wire.Field.{Field}

infixl 10 ◌>>=◌
abbrev pub ◌>>=◌ : {A B K : Type 0} → Result A K → (A → Result B K) → Result B K
(Ok x) >>= f = f x
(Err k) >>= f = Err k

-- a varint of at most so many bytes at the front: its number, and how many bytes it takes
abbrev pub varint_in : ℕ → List ℕ → Result (ℕ × ℕ) WireKind
varint_in zero bytes = Err Long
varint_in (suc most) [] = Err End
varint_in (suc most) (b ∷ bytes) =
    if nat_lt b 128 then Ok (b, 1)
    else (varint_in most bytes >>= λ r. Ok (b - 128 + 128 * r.0, r.1 + 1))

-- bits above 64 are dropped
unfoldable pub varint_front : List ℕ → Result (ℕ × ℕ) WireKind
varint_front bytes = varint_in 10 bytes >>= λ r. Ok (r.0 % 2 ^ 64, r.1)

-- the varint at a place, and the place behind it
unfoldable pub varint_at : List ℕ → ℕ → Result (ℕ × ℕ) WireKind
varint_at bytes at = varint_front (drop at bytes) >>= λ r. Ok (r.0, at + r.1)

-- the number that bytes are, the least first
abbrev pub little_endian : List ℕ → ℕ
little_endian [] = 0
little_endian (b ∷ bytes) = 256 * little_endian bytes + b

-- a value of so many bytes at a place, which stands for a number
unfoldable pub value_of : List ℕ → ℕ → ℕ → ℕ → ℕ → ℕ → Result Field WireKind
value_of bytes number wire value start size =
    if nat_le (start + size) (length bytes) then Ok (record { number = number; wire = wire; value = value; start = start; end = start + size; next = start + size })
    else Err End

-- the value that a key announces
unfoldable pub behind_key : List ℕ → ℕ → ℕ → ℕ → Result Field WireKind
behind_key bytes number wire start =
    if number == 0 then Err Zero
    else if wire == 0 then (varint_at bytes start >>= λ v. value_of bytes number wire v.0 start (v.1 - start))
    else if wire == 1 then value_of bytes number wire (little_endian (take 8 (drop start bytes))) start 8
    else if wire == 2 then (varint_at bytes start >>= λ v. value_of bytes number wire v.0 v.1 v.0)
    else if wire == 5 then value_of bytes number wire (little_endian (take 4 (drop start bytes))) start 4
    else Err Wire

-- the field at a place
unfoldable pub field_of : List ℕ → ℕ → Result Field WireKind
field_of bytes at = varint_at bytes at >>= λ key. behind_key bytes (key.0 / 8) (key.0 % 8) key.1

-- a fault at a byte
abbrev pub at_byte : {A : Type 0} → ℕ → Result A WireKind → Result A WireFault
at_byte byte (Ok x) = Ok x
at_byte byte (Err kind) = Err (record { byte = byte; kind = kind })
