-- What the fields of a message say (Protocol Buffers, "Encoding": "Last One Wins", "Repeated Elements", "Signed Integers").
--
-- Each looks at the fields of its number alone: in between, fields of other numbers may stand, of any wire type.
use Rattle.std.specs.Prelude.{◌≡◌, ℕ, ◌+◌, ◌-◌, ◌*◌, ◌%◌, ◌^◌, ◌<◌, suc, ℤ, pos, negsuc, ◌-ℤ◌, List, [], ◌∷◌, ◌++◌, map, Option, Some, None, Bool, true, false, ◌==◌, if◌then◌else◌}
use Rattle.std.specs.List.{AllByRecursion}
use Rattle.pbf_file_laws.specs.Messages.{IsVarint, varint_text, worth, Value, Entry}

-- the first of two that is there
abbrev pub or_else : {X : Type 0} → Option X → Option X → Option X
or_else None other = other
or_else (Some x) other = Some x

abbrev pub number_in : Value → Option ℕ
number_in (Value.Varint groups) = Some (worth groups)
number_in (Value.Eight bytes) = None
number_in (Value.Bytes size content) = None
number_in (Value.Four bytes) = None

-- the number that a field says for a scalar
abbrev pub own_number : ℕ → Entry → Option ℕ
own_number number entry = if entry.number == number then number_in entry.value else None

-- a scalar is the last number of its fields
abbrev pub scalar : ℕ → List Entry → Option ℕ
scalar number [] = None
scalar number (entry ∷ entries) = or_else (scalar number entries) (own_number number entry)

abbrev pub content_in : Value → List (List ℕ)
content_in (Value.Varint groups) = []
content_in (Value.Eight bytes) = []
content_in (Value.Bytes size content) = content ∷ []
content_in (Value.Four bytes) = []

abbrev pub own_content : ℕ → Entry → List (List ℕ)
own_content number entry = if entry.number == number then content_in entry.value else []

-- the bytes of each field of a number, in order
abbrev pub contents : ℕ → List Entry → List (List ℕ)
contents number [] = []
contents number (entry ∷ entries) = own_content number entry ++ contents number entries

-- lists one behind another
abbrev pub joined : List (List ℕ) → List ℕ
joined [] = []
joined (list ∷ lists) = list ++ joined lists

abbrev pub varints_text : List (List ℕ) → List ℕ
varints_text [] = []
varints_text (groups ∷ varints) = varint_text groups ++ varints_text varints

-- a packed field: varints one behind another
pub record IsPacked (content : List ℕ) (numbers : List ℕ) : Type 0 where
  pub varints : List (List ℕ)
  pub are : AllByRecursion IsVarint varints
  pub text : content ≡ varints_text varints
  pub say : numbers ≡ map worth varints

-- what a value says of a list: one number, or each that is packed
abbrev pub ValueLists : Value → List ℕ → Type 0
ValueLists (Value.Varint groups) numbers = numbers ≡ worth groups ∷ []
ValueLists (Value.Eight bytes) numbers = numbers ≡ []
ValueLists (Value.Bytes size content) numbers = IsPacked content numbers
ValueLists (Value.Four bytes) numbers = numbers ≡ []

-- one or the other, by a test
abbrev pub ByTest : Bool → Type 0 → Type 0 → Type 0
ByTest true P Q = P
ByTest false P Q = Q

-- a field of another number says nothing of it
abbrev pub EntryLists : ℕ → Entry → List ℕ → Type 0
EntryLists number entry numbers = ByTest (entry.number == number) (ValueLists entry.value numbers) (numbers ≡ [])

-- a list is what its fields say one behind another: packed, one by one, or in pieces
abbrev pub Lists : ℕ → List Entry → List ℕ → Type 0
Lists number [] numbers = numbers ≡ []
Lists number (entry ∷ entries) numbers =
    (front : List ℕ) × (back : List ℕ) × (numbers ≡ front ++ back) × EntryLists number entry front × Lists number entries back

-- each of one list with the one beside it in the other, and no more
abbrev pub Pairwise : {X Y : Type 0} → (X → Y → Type 0) → List X → List Y → Type 0
Pairwise R [] [] = Unit {0}
Pairwise R (x ∷ xs) (y ∷ ys) = R x y × Pairwise R xs ys
Pairwise R [] (y ∷ ys) = ⊥
Pairwise R (x ∷ xs) [] = ⊥

-- sint64: 0, -1, 1, -2 and so on are 0, 1, 2, 3
abbrev pub sint : ℤ → ℕ
sint (pos n) = 2 * n
sint (negsuc n) = 2 * n + 1

-- each number less the one before it
abbrev pub differences : ℤ → List ℤ → List ℕ
differences last [] = []
differences last (z ∷ zs) = sint (z -ℤ last) ∷ differences z zs

-- two's complement of so many bits
abbrev pub complement : ℕ → ℤ → ℕ
complement bits (pos n) = n
complement bits (negsuc n) = 2 ^ bits - suc n

-- how far from 0, where the negative numbers reach one farther
abbrev pub reach : ℤ → ℕ
reach (pos n) = n
reach (negsuc n) = n

-- a number is this int64
pub record IsInt64 (number : ℕ) (z : ℤ) : Type 0 where
  pub same : number ≡ complement 64 z
  pub fits : reach z < 2 ^ 63

-- the low 32 bits of a number are this int32
pub record IsInt32 (number : ℕ) (z : ℤ) : Type 0 where
  pub same : number % 2 ^ 32 ≡ complement 32 z
  pub fits : reach z < 2 ^ 31
