-- The values whose text is read again: brackets not too deep, keys that differ.
use Rattle.std.specs.Prelude.{◌≡◌, ℕ, zero, suc, Bool, true, false, ◌&&◌, ◌||◌, not, List, [], ◌∷◌, ◌++◌, nat_lt, nat_le}
use Rattle.std.specs.Str.{is_utf8}
use Rattle.exact_json.specs.Decimals.{DecimalValue, limit}
use Rattle.exact_json.specs.Values.{has_key}
use Rattle.exact_json.specs.declared.value.Json.{Json, out-Json}
use Rattle.exact_json.specs.declared.value.Member.{Member, out-Member}
use Rattle.exact_json.specs.declared.value.Json.TheOpen.{Json-F, Member-F}
use Rattle.exact_json.specs.declared.value.Json.TheFolds.{fold-Json, fold-Member}

-- RFC 8259, 4: the key of each of these members is none of those before it
abbrev pub AreNew : List Member → List Member → Type 0
AreNew before [] = Unit {0}
AreNew before (m ∷ ms) = (has_key (out-Member m).key before ≡ false) × AreNew (before ++ m ∷ []) ms

-- RFC 8259, 4: the keys of these members differ
abbrev pub KeysDiffer : List Member → Type 0
KeysDiffer ms = AreNew [] ms

-- each of these items is so
abbrev pub EachItem : (Json → Type 0) → List Json → Type 0
EachItem P [] = Unit {0}
EachItem P (x ∷ xs) = P x × EachItem P xs

-- the value of each of these members is so
abbrev pub EachValue : (Json → Type 0) → List Member → Type 0
EachValue P [] = Unit {0}
EachValue P (m ∷ ms) = P (out-Member m).value × EachValue P ms

-- a value without brackets
abbrev pub IsFlat : Json-F Json Member → Type 0
IsFlat (Json-F.Array xs) = ⊥
IsFlat (Json-F.Object ms) = ⊥
IsFlat _ = Unit {0}

-- what stands in its brackets is so, and its keys differ
abbrev pub Holds : (Json → Type 0) → Json-F Json Member → Type 0
Holds P (Json-F.Array xs) = EachItem P xs
Holds P (Json-F.Object ms) = KeysDiffer ms × EachValue P ms
Holds P _ = Unit {0}

-- RFC 8259, 4 and 9: at most this many brackets are open at once, and the keys of each object differ
abbrev pub Fits : ℕ → Json → Type 0
Fits zero v = IsFlat (out-Json v)
Fits (suc depth) v = Holds (Fits depth) (out-Json v)

-- all are true
abbrev pub all_true : List Bool → Bool
all_true [] = true
all_true (b ∷ bs) = b && all_true bs

-- `IsExact` as a test
abbrev pub is_exact : DecimalValue → Bool
is_exact d = nat_lt d.digits limit && nat_le d.places 18 && (not d.negative || nat_lt 0 d.digits)

-- a layer is what the types say, where its children are
abbrev pub sound_step : Json-F Bool Bool → Bool
sound_step Json-F.Null = true
sound_step (Json-F.Flag b) = true
sound_step (Json-F.Number d) = is_exact d
sound_step (Json-F.Str t) = is_utf8 t
sound_step (Json-F.Array xs) = all_true xs
sound_step (Json-F.Object ms) = all_true ms

-- a member is what the types say, where its value is
abbrev pub sound_member : Member-F Bool Bool → Bool
sound_member m = is_utf8 m.key && m.value

-- what the types say of each value: its texts are UTF-8, its numbers in range
abbrev pub is_sound : Json → Bool
is_sound = fold-Json Bool Bool sound_step sound_member

-- what the types say of each member
abbrev pub is_sound_member : Member → Bool
is_sound_member = fold-Member Bool Bool sound_step sound_member
