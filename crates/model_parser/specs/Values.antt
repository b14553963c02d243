-- JSON values by what they are (RFC 8259), and the members of objects.
use Rattle.std.specs.Prelude.{ℕ, Bool, true, false, List, [], ◌∷◌, Option, Some, None, unwrap_or, if◌then◌else◌}
use Rattle.std.specs.List.{list_all}
use Rattle.std.specs.Option.{is_some}
use Rattle.std.specs.Str.{bytes_eq}
use Rattle.exact_json.specs.Decimals.{DecimalValue}
use Rattle.exact_json.specs.declared.value.Json.{Json, out-Json}
use Rattle.exact_json.specs.declared.value.Member.{Member, out-Member}
use Rattle.exact_json.specs.declared.value.Json.TheOpen.{Json-F}

infixl 10 ◌>>=◌
abbrev pub ◌>>=◌ : {A B : Type 0} → Option A → (A → Option B) → Option B
(Some x) >>= f = f x
None >>= f = None

abbrev pub object_in : Json-F Json Member → Option (List Member)
object_in (Json-F.Object ms) = Some ms
object_in _ = None

-- the members of an object
abbrev pub object_of : Json → Option (List Member)
object_of v = object_in (out-Json v)

abbrev pub array_in : Json-F Json Member → Option (List Json)
array_in (Json-F.Array xs) = Some xs
array_in _ = None

-- the items of an array
abbrev pub array_of : Json → Option (List Json)
array_of v = array_in (out-Json v)

abbrev pub text_in : Json-F Json Member → Option (List ℕ)
text_in (Json-F.Str t) = Some t
text_in _ = None

-- the text of a string
abbrev pub text_of : Json → Option (List ℕ)
text_of v = text_in (out-Json v)

abbrev pub number_in : Json-F Json Member → Option DecimalValue
number_in (Json-F.Number d) = Some d
number_in _ = None

abbrev pub number_of : Json → Option DecimalValue
number_of v = number_in (out-Json v)

abbrev pub null_in : Json-F Json Member → Bool
null_in Json-F.Null = true
null_in _ = false

abbrev pub is_null : Json → Bool
is_null v = null_in (out-Json v)

-- the items of an array; none of anything else
abbrev pub items : Json → List Json
items v = unwrap_or (array_of v) []

-- the value of the member with this key
abbrev pub find : List ℕ → List Member → Option Json
find key [] = None
find key (m ∷ ms) = if bytes_eq (out-Member m).key key then Some (out-Member m).value else find key ms

-- the text of the member with this key
abbrev pub text_at : List ℕ → List Member → Option (List ℕ)
text_at key ms = find key ms >>= text_of

abbrev pub all_of : {A : Type 0} → (A → Bool) → Option (List A) → Bool
all_of test (Some xs) = list_all test xs
all_of test None = false

abbrev pub is_array : Json → Bool
is_array v = is_some (array_of v)
