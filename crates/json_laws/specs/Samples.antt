-- Texts and what they are (RFC 8259), and texts that are refused.
use Rattle.std.specs.Prelude.{◌≡◌, ℕ, Bool, true, false, List, [], ◌∷◌, Ok, Err, map, replicate, codes}
use Rattle.gh_base.specs.declared.kinds.JsonKind.{JsonKind}
use Rattle.gh_base.specs.declared.kinds.JsonKind.TheVariants.{End, Byte, Utf8, Escape, TooLong, TwiceKey, Depth, After}
use Rattle.exact_json.specs.declared.value.Json.{Json}
use Rattle.exact_json.specs.declared.value.Json.TheVariants as j
use Rattle.exact_json.specs.declared.value.Member.{Member, roll-Member}
use Rattle.exact_json.specs.Values.{reads}

abbrev pub number : Bool → ℕ → ℕ → Json
number negative digits places = j.Number (record { negative = negative; digits = digits; places = places })

abbrev pub member : List ℕ → Json → Member
member key value = roll-Member (record { key = key; value = value })

abbrev pub samples : List (List ℕ × Json)
samples =
    (codes "null", j.Null) ∷
    (codes "true", j.Flag true) ∷
    (codes "false", j.Flag false) ∷
    (codes "0", number false 0 0) ∷
    (codes "-0", number false 0 0) ∷
    (codes "-12", number true 12 0) ∷
    (codes "1.50", number false 150 2) ∷
    (codes "1.5e3", number false 1500 0) ∷
    (codes "1.5E+1", number false 15 0) ∷
    (codes "-25e-1", number true 25 1) ∷
    (codes "2E3", number false 2000 0) ∷
    (codes "1e0005", number false 100000 0) ∷
    (codes "-0.5", number true 5 1) ∷
    (codes "999999999999999999", number false 999999999999999999 0) ∷
    (codes "0.000000000000000001", number false 1 18) ∷
    (codes "\"\"", j.Str []) ∷
    (codes "\"a b\"", j.Str (codes "a b")) ∷
    (codes "\"\\b\"", j.Str (8 ∷ [])) ∷
    (codes "\"\\f\"", j.Str (12 ∷ [])) ∷
    (codes "\"\\n\\r\\t\"", j.Str (10 ∷ 13 ∷ 9 ∷ [])) ∷
    (codes "\"\\\"\\\\\\/\"", j.Str (34 ∷ 92 ∷ 47 ∷ [])) ∷
    (codes "\"\\u00E9\\u20ac\"", j.Str (195 ∷ 169 ∷ 226 ∷ 130 ∷ 172 ∷ [])) ∷
    (codes "\"\\uD83D\\uDE00\"", j.Str (240 ∷ 159 ∷ 152 ∷ 128 ∷ [])) ∷
    (codes "[]", j.Array []) ∷
    (codes "{}", j.Object []) ∷
    (codes "[1,\"1\"]", j.Array (number false 1 0 ∷ j.Str (codes "1") ∷ [])) ∷
    (codes "{\"b\":1,\"a\":[null]}", j.Object (member (codes "b") (number false 1 0) ∷ member (codes "a") (j.Array (j.Null ∷ [])) ∷ [])) ∷ []

abbrev pub TextsAreSo : Type 0
TextsAreSo = map (λ (s : List ℕ × Json). reads s.0) samples ≡ map (λ (s : List ℕ × Json). Ok s.1) samples

-- a text, the byte of its first fault and what is wrong there
abbrev pub refused : List (List ℕ × (ℕ × JsonKind))
refused =
    ([], (0, End)) ∷
    (codes "[1,", (3, End)) ∷
    (codes "\"a", (2, End)) ∷
    (codes "tru", (3, End)) ∷
    (codes "[1 2]", (3, Byte)) ∷
    (codes "01", (1, After)) ∷
    (codes "+1", (0, Byte)) ∷
    (codes "1.", (2, End)) ∷
    (codes "\"\\a\"", (2, Byte)) ∷
    (34 ∷ 10 ∷ 34 ∷ [], (1, Byte)) ∷
    (34 ∷ 97 ∷ 255 ∷ 34 ∷ [], (2, Utf8)) ∷
    (codes "\"\\uDE00\"", (1, Escape)) ∷
    (codes "\"\\uD83Dx\"", (1, Escape)) ∷
    (codes " 1000000000000000000", (1, TooLong)) ∷
    (codes "1e-19", (0, TooLong)) ∷
    (codes "1e00001", (0, TooLong)) ∷
    (codes "{\"a\":1,\"a\":2}", (7, TwiceKey)) ∷
    (codes "{\"a\":1,\"b\":2,\"a\":3}", (13, TwiceKey)) ∷
    (replicate 65 91, (64, Depth)) ∷
    (codes "1 2", (2, After)) ∷ []

abbrev pub FaultsStandSo : Type 0
FaultsStandSo = map (λ (s : List ℕ × (ℕ × JsonKind)). reads s.0) refused ≡ map (λ (s : List ℕ × (ℕ × JsonKind)). Err s.1) refused
