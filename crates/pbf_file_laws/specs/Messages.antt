-- A message as it is written, in any spelling (Protocol Buffers, "Encoding": "Base 128 Varints", "Message Structure").
use Rattle.std.specs.Prelude.{◌≡◌, ℕ, ◌+◌, ◌*◌, ◌^◌, ◌<◌, ◌≤◌, List, [], ◌∷◌, ◌++◌, length}
use Rattle.std.specs.List.{AllByRecursion}

-- groups of seven bits, the least first
abbrev pub AreGroups : List ℕ → Type 0
AreGroups [] = Unit {0}
AreGroups (g ∷ groups) = (g < 128) × AreGroups groups

-- each byte but the last has its top bit set
abbrev pub varint_text : List ℕ → List ℕ
varint_text [] = []
varint_text (g ∷ []) = g ∷ []
varint_text (g ∷ next ∷ groups) = (g + 128) ∷ varint_text (next ∷ groups)

-- the number that they make
abbrev pub worth : List ℕ → ℕ
worth [] = 0
worth (g ∷ groups) = g + 128 * worth groups

-- a varint of one to ten bytes, maybe more than it needs, whose number has 64 bits
pub record IsVarint (groups : List ℕ) : Type 0 where
  pub are : AreGroups groups
  pub some : 0 < length groups
  pub few : length groups ≤ 10
  pub small : worth groups < 2 ^ 64

-- what stands behind a key: a varint, eight bytes, a length and so many bytes, or four bytes
pub data Value : Type 0 where
  Varint : List ℕ → Value
  Eight : List ℕ → Value
  Bytes : List ℕ → List ℕ → Value
  Four : List ℕ → Value

-- a field: its number, the groups of its key, and its value
pub record Entry : Type 0 where
  pub number : ℕ
  pub key : List ℕ
  pub value : Value

abbrev pub wire_type : Value → ℕ
wire_type (Value.Varint groups) = 0
wire_type (Value.Eight bytes) = 1
wire_type (Value.Bytes size content) = 2
wire_type (Value.Four bytes) = 5

abbrev pub IsValue : Value → Type 0
IsValue (Value.Varint groups) = IsVarint groups
IsValue (Value.Eight bytes) = length bytes ≡ 8
IsValue (Value.Bytes size content) = IsVarint size × (worth size ≡ length content)
IsValue (Value.Four bytes) = length bytes ≡ 4

-- a key is the number times 8 and the wire type
pub record IsEntry (entry : Entry) : Type 0 where
  pub some : 0 < entry.number
  pub key : IsVarint entry.key
  pub says : worth entry.key ≡ 8 * entry.number + wire_type entry.value
  pub value : IsValue entry.value

abbrev pub value_text : Value → List ℕ
value_text (Value.Varint groups) = varint_text groups
value_text (Value.Eight bytes) = bytes
value_text (Value.Bytes size content) = varint_text size ++ content
value_text (Value.Four bytes) = bytes

abbrev pub entry_text : Entry → List ℕ
entry_text entry = varint_text entry.key ++ value_text entry.value

-- fields one behind another
abbrev pub message_text : List Entry → List ℕ
message_text [] = []
message_text (entry ∷ entries) = entry_text entry ++ message_text entries

-- these bytes are a message of these fields
pub record IsMessage (bytes : List ℕ) (entries : List Entry) : Type 0 where
  pub text : bytes ≡ message_text entries
  pub are : AllByRecursion IsEntry entries
