-- Which texts a value has (RFC 8259): numbers in each of their forms, and white space wherever it may stand.
use Rattle.std.specs.Prelude.{◌≡◌, ℕ, zero, suc, ◌≤◌, ◌⊎◌, Bool, true, false, ◌&&◌, List, [], ◌∷◌, ◌++◌, Some, Ok, nat_le, if◌then◌else◌, codes, IsUtf8}
use Rattle.exact_json.specs.Again.{KeysDiffer}
use Rattle.exact_json.specs.Decimals.{DecimalValue, decimal_of}
use Rattle.exact_json.specs.Printed.{quoted}
use Rattle.exact_json.specs.Values.{reads}
use Rattle.exact_json.specs.declared.value.Json.{Json, out-Json}
use Rattle.exact_json.specs.declared.value.Json.TheOpen.{Json-F}
use Rattle.exact_json.specs.declared.value.Member.{Member, out-Member}
use Rattle.json_laws.specs.Spacing.{IsSpace}

abbrev pub is_digit : ℕ → Bool
is_digit b = nat_le 48 b && nat_le b 57

-- each of these bytes is a digit
abbrev pub AreDigits : List ℕ → Type 0
AreDigits [] = Unit {0}
AreDigits (b ∷ bytes) = (is_digit b ≡ true) × AreDigits bytes

-- one digit or more
abbrev pub AreSome : List ℕ → Type 0
AreSome [] = ⊥
AreSome (b ∷ bytes) = AreDigits (b ∷ bytes)

-- RFC 8259, 6, int: a zero alone, or digits the first of which is none
abbrev pub IsWhole : List ℕ → Type 0
IsWhole digits = (digits ≡ 48 ∷ []) ⊎ ((b : ℕ) × (bytes : List ℕ) × (digits ≡ b ∷ bytes) × ((49 ≤ b) × ((b ≤ 57) × AreDigits bytes)))

-- RFC 8259, 6, frac: a point and digits, or nothing
abbrev pub IsFraction : List ℕ → List ℕ → Type 0
IsFraction digits text = ((digits ≡ []) × (text ≡ [])) ⊎ (AreSome digits × (text ≡ 46 ∷ digits))

-- RFC 8259, 6, e: a small or a capital letter
abbrev pub IsLetter : ℕ → Type 0
IsLetter b = (b ≡ 101) ⊎ (b ≡ 69)

-- RFC 8259, 6: a minus, which is told, or a plus, or nothing
abbrev pub IsSign : Bool → List ℕ → Type 0
IsSign true sign = sign ≡ 45 ∷ []
IsSign false sign = (sign ≡ []) ⊎ (sign ≡ 43 ∷ [])

-- RFC 8259, 6, exp: a letter, maybe a sign, and digits
pub record IsPower (down : Bool) (digits text : List ℕ) : Type 0 where
  pub letter : ℕ
  pub sign : List ℕ
  pub text_is : text ≡ letter ∷ (sign ++ digits)
  pub is_letter : IsLetter letter
  pub is_sign : IsSign down sign
  pub some : AreSome digits

-- or nothing
abbrev pub IsExponent : Bool → List ℕ → List ℕ → Type 0
IsExponent down digits text = ((down ≡ false) × ((digits ≡ []) × (text ≡ []))) ⊎ IsPower down digits text

abbrev pub minus : Bool → List ℕ
minus negative = if negative then 45 ∷ [] else []

-- RFC 8259, 6, number: a sign, digits, a fraction and an exponent, which make this decimal
pub record IsNumeral (d : DecimalValue) (text : List ℕ) : Type 0 where
  pub negative : Bool
  pub whole : List ℕ
  pub fraction : List ℕ
  pub down : Bool
  pub exponent : List ℕ
  pub middle : List ℕ
  pub last : List ℕ
  pub text_is : text ≡ minus negative ++ (whole ++ (middle ++ last))
  pub is_whole : IsWhole whole
  pub is_fraction : IsFraction fraction middle
  pub is_exponent : IsExponent down exponent last
  pub worth : decimal_of negative whole fraction down exponent ≡ Some d

-- RFC 8259, 3: the texts of a value without brackets
abbrev pub IsFlatText : Json-F Json Member → List ℕ → Type 0
IsFlatText Json-F.Null text = text ≡ codes "null"
IsFlatText (Json-F.Flag true) text = text ≡ codes "true"
IsFlatText (Json-F.Flag false) text = text ≡ codes "false"
IsFlatText (Json-F.Number d) text = IsNumeral d text
IsFlatText (Json-F.Str s) text = IsUtf8 s × (text ≡ quoted s)
IsFlatText (Json-F.Array xs) text = ⊥
IsFlatText (Json-F.Object ms) text = ⊥

-- what this is, white space, and then a tail
pub record IsBefore (Is : List ℕ → Type 0) (tail text : List ℕ) : Type 0 where
  pub inner : List ℕ
  pub space : List ℕ
  pub text_is : text ≡ inner ++ (space ++ tail)
  pub is : Is inner
  pub is_space : IsSpace space

-- RFC 8259, 5: items with a comma between, and white space round it
abbrev pub AreItems : (Json → List ℕ → Type 0) → Json → List Json → List ℕ → Type 0
AreItems Is x [] text = IsBefore (Is x) [] text
AreItems Is x (y ∷ ys) text = (space rest : List ℕ) × IsBefore (Is x) (44 ∷ (space ++ rest)) text × (IsSpace space × AreItems Is y ys rest)

-- RFC 8259, 4, member: a key, a colon with white space round it, and a value
pub record IsMember (Is : Json → List ℕ → Type 0) (m : Member) (text : List ℕ) : Type 0 where
  pub before : List ℕ
  pub behind : List ℕ
  pub value : List ℕ
  pub text_is : text ≡ quoted (out-Member m).key ++ (before ++ 58 ∷ (behind ++ value))
  pub is_key : IsUtf8 (out-Member m).key
  pub is_before : IsSpace before
  pub is_behind : IsSpace behind
  pub is_value : Is (out-Member m).value value

-- RFC 8259, 4: members with a comma between, and white space round it
abbrev pub AreMembers : (Json → List ℕ → Type 0) → Member → List Member → List ℕ → Type 0
AreMembers Is m [] text = IsBefore (IsMember Is m) [] text
AreMembers Is m (n ∷ ms) text = (space rest : List ℕ) × IsBefore (IsMember Is m) (44 ∷ (space ++ rest)) text × (IsSpace space × AreMembers Is n ms rest)

-- RFC 8259, 5: white space, and nothing or items, between square brackets
abbrev pub IsArrayText : (Json → List ℕ → Type 0) → List Json → List ℕ → Type 0
IsArrayText Is [] text = (space : List ℕ) × (text ≡ 91 ∷ (space ++ 93 ∷ [])) × IsSpace space
IsArrayText Is (x ∷ xs) text = (space inner : List ℕ) × (text ≡ 91 ∷ (space ++ (inner ++ 93 ∷ []))) × (IsSpace space × AreItems Is x xs inner)

-- RFC 8259, 4: white space, and nothing or members with keys that differ, between braces
abbrev pub IsObjectText : (Json → List ℕ → Type 0) → List Member → List ℕ → Type 0
IsObjectText Is [] text = (space : List ℕ) × (text ≡ 123 ∷ (space ++ 125 ∷ [])) × IsSpace space
IsObjectText Is (m ∷ ms) text = (space inner : List ℕ) × (text ≡ 123 ∷ (space ++ (inner ++ 125 ∷ []))) × (IsSpace space × (KeysDiffer (m ∷ ms) × AreMembers Is m ms inner))

-- a layer, where this is what its parts have
abbrev pub IsLayerText : (Json → List ℕ → Type 0) → Json-F Json Member → List ℕ → Type 0
IsLayerText Is (Json-F.Array xs) text = IsArrayText Is xs text
IsLayerText Is (Json-F.Object ms) text = IsObjectText Is ms text
IsLayerText Is Json-F.Null text = text ≡ codes "null"
IsLayerText Is (Json-F.Flag b) text = IsFlatText (Json-F.Flag b) text
IsLayerText Is (Json-F.Number d) text = IsNumeral d text
IsLayerText Is (Json-F.Str s) text = IsUtf8 s × (text ≡ quoted s)

-- a text of a value, where at most so many brackets are open at once
abbrev pub IsText : ℕ → Json → List ℕ → Type 0
IsText zero v text = IsFlatText (out-Json v) text
IsText (suc depth) v text = IsLayerText (IsText depth) (out-Json v) text

-- each text of a value of at most 64 brackets, with white space before and behind it, reads as that value
abbrev pub TextsAreRead : Type 0
TextsAreRead = (v : Json) (before text behind : List ℕ) → IsText 64 v text → IsSpace before → IsSpace behind → reads (before ++ (text ++ behind)) ≡ Ok v
