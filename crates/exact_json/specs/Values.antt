-- JSON values (RFC 8259, sections 3 to 5), with brackets nested no deeper than a number.
use Rattle.std.specs.Prelude.{◌≡◌, ℕ, zero, suc, ◌+◌, ◌-◌, Bool, true, false, ◌||◌, List, [], ◌∷◌, ◌++◌, length, Option, Some, None, Result, Ok, Err, ◌==◌, if◌then◌else◌, codes}
use Rattle.gh_base.specs.declared.kinds.JsonKind.{JsonKind}
use Rattle.gh_base.specs.declared.kinds.JsonKind.TheVariants.{End, Byte, Depth, TwiceKey, After}
use Rattle.exact_json.specs.declared.reader.First.{First}
use Rattle.exact_json.specs.declared.reader.First.TheVariants as first
use Rattle.exact_json.specs.declared.value.Json.{Json}
use Rattle.exact_json.specs.declared.value.Json.TheVariants as j
use Rattle.exact_json.specs.declared.value.Member.{Member, roll-Member, out-Member}
use Rattle.exact_json.specs.declared.fault.JsonFault.{JsonFault}
use Rattle.exact_json.specs.declared.fault.JsonFault.TheVariants as faults
use Rattle.exact_json.specs.declared.stop.Stop.{Stop}
use Rattle.exact_json.specs.declared.stop.Stop.TheVariants as stops
use Rattle.std.specs.Str.{bytes_eq}
use Rattle.exact_json.specs.Parsing.{Outcome, ◌>>=◌, ◌>>◌, pure, refuse, front, eat, turns, left, fault}
use Rattle.exact_json.specs.Tokens.{Reader, after_space, skip, take_byte, byte, word, more}
use Rattle.exact_json.specs.Texts.{text}
use Rattle.exact_json.specs.Numbers.{number, begins_number}

-- RFC 8259, 4: whether a member has this key
abbrev pub has_key : List ℕ → List Member → Bool
has_key key [] = false
has_key key (m ∷ ms) = bytes_eq (out-Member m).key key || has_key key ms

-- what stands in brackets takes the parser of the values there
module _ (value : Reader Json) where
  -- RFC 8259, 5: an item, and what goes on behind a comma
  abbrev pub item_turn : (List Json → Reader (List Json)) → List Json → Reader (List Json)
  item_turn go_on found = do
    skip
    x ← value
    skip
    goes_on ← more 93
    if goes_on then go_on (found ++ x ∷ []) else pure (found ++ x ∷ [])

  -- RFC 8259, 5: one item or more, up to the closing bracket
  unfoldable pub items : Reader (List Json)
  items = λ i. turns End item_turn (length i) [] i

  -- RFC 8259, 5, array: behind its bracket
  unfoldable pub array : Reader Json
  array = do
    skip
    is_empty ← eat 93
    if is_empty then pure (j.Array []) else (do found ← items; pure (j.Array found))

  -- RFC 8259, 4: a key is none of those before, or TwiceKey at its quote
  abbrev pub fresh : ℕ → List ℕ → List Member → Reader (Unit {0})
  fresh start key found = if has_key key found then fault start TwiceKey else pure tt

  -- RFC 8259, 4, member: its key is none of those before
  unfoldable pub member : List Member → Reader Member
  member found = do
    start ← left
    byte 34
    key ← text
    fresh start key found
    skip
    byte 58
    skip
    x ← value
    pure (roll-Member (record { key = key; value = x }))

  -- RFC 8259, 4: a member, and what goes on behind a comma
  abbrev pub member_turn : (List Member → Reader (List Member)) → List Member → Reader (List Member)
  member_turn go_on found = do
    skip
    m ← member found
    skip
    goes_on ← more 125
    if goes_on then go_on (found ++ m ∷ []) else pure (found ++ m ∷ [])

  -- RFC 8259, 4: one member or more, up to the closing bracket
  unfoldable pub members : Reader (List Member)
  members = λ i. turns End member_turn (length i) [] i

  -- RFC 8259, 4, object: behind its bracket
  unfoldable pub object : Reader Json
  object = do
    skip
    is_empty ← eat 125
    if is_empty then pure (j.Object []) else (do found ← members; pure (j.Object found))

-- RFC 8259, 6: a number as a value
unfoldable pub numeral : Reader Json
numeral = do
  n ← number
  pure (j.Number n)

-- RFC 8259, 3: what a value can begin with
abbrev pub first_of : Option ℕ → First
first_of None = first.End
first_of (Some b) =
    if b == 110 then first.Null
    else if b == 116 then first.True
    else if b == 102 then first.False
    else if b == 34 then first.Text
    else if b == 91 then first.Array
    else if b == 123 then first.Object
    else if begins_number b then first.Number
    else first.Other

-- RFC 8259, 3: a value by what it begins with
abbrev pub value_by : Reader Json → Reader Json → First → Reader Json
value_by an_array an_object first.End = refuse End
value_by an_array an_object first.Null = word (codes "null") >> pure j.Null
value_by an_array an_object first.True = word (codes "true") >> pure (j.Flag true)
value_by an_array an_object first.False = word (codes "false") >> pure (j.Flag false)
value_by an_array an_object first.Text = take_byte >> (do t ← text; pure (j.Str t))
value_by an_array an_object first.Array = an_array
value_by an_array an_object first.Object = an_object
value_by an_array an_object first.Number = numeral
value_by an_array an_object first.Other = refuse Byte

-- RFC 8259, 3: a value, with what reads an array and an object
abbrev pub value_with : Reader Json → Reader Json → Reader Json
value_with an_array an_object = λ i. value_by an_array an_object (first_of (front i)) i

-- RFC 8259, 3 and 9: a value in which at most this many brackets are open at once
unfoldable pub value_at : ℕ → Reader Json
value_at zero = value_with (refuse Depth) (refuse Depth)
value_at (suc depth) = value_with (take_byte >> array (value_at depth)) (take_byte >> object (value_at depth))

-- RFC 8259, 2: nothing stands behind the value
abbrev pub finished : Json → List ℕ → Result Json (ℕ × JsonKind)
finished v [] = Ok v
finished v (b ∷ bytes) = Err (length bytes + 1, After)

-- RFC 8259, 2: a value, white space, and the end
abbrev pub at_end : Outcome JsonKind Json → Result Json (ℕ × JsonKind)
at_end (Ok p) = finished p.0 (after_space p.1)
at_end (Err e) = Err e

-- RFC 8259, 2: a fault by its byte, counted from 0
abbrev pub by_byte : ℕ → Result Json (ℕ × JsonKind) → Result Json (ℕ × JsonKind)
by_byte n (Ok v) = Ok v
by_byte n (Err e) = Err (n - e.0, e.1)

-- RFC 8259, 2, JSON-text: the value that a text is, or its first fault
unfoldable pub reads : List ℕ → Result Json (ℕ × JsonKind)
reads bytes = by_byte (length bytes) (at_end (value_at 64 (after_space bytes)))

-- what `read` answers is what the text reads as, unless memory ran out
abbrev pub Answers : Result Json JsonFault → List ℕ → Type 0
Answers (Ok v) bytes = reads bytes ≡ Ok v
Answers (Err faults.NoMemory) bytes = Unit {0}
Answers (Err (faults.At byte kind)) bytes = reads bytes ≡ Err (byte, kind)

-- as `Answers`, with how many bytes are left at the fault
abbrev pub StopsAt : Result Json (Stop JsonKind) → Result Json (ℕ × JsonKind) → Type 0
StopsAt (Ok v) outcome = outcome ≡ Ok v
StopsAt (Err stops.NoMemory) outcome = Unit {0}
StopsAt (Err (stops.At left kind)) outcome = outcome ≡ Err (left, kind)
