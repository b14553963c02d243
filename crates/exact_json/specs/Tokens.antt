-- The bytes that JSON is read by (RFC 8259, section 2).
use Rattle.std.specs.Prelude.{◌≡◌, ℕ, ◌+◌, Bool, true, false, ◌||◌, List, [], ◌∷◌, length, Result, Ok, Err, ◌==◌, if◌then◌else◌}
use denote.Ref.{Bor}
use Rattle.gh_base.specs.declared.kinds.JsonKind.{JsonKind}
use Rattle.gh_base.specs.declared.kinds.JsonKind.TheVariants.{End, Byte}
use Rattle.exact_json.specs.declared.stop.Stop.{Stop}
use Rattle.exact_json.specs.Parsing as parsing
use Rattle.exact_json.specs.Parsing.{Outcome, and_then, Stops}

-- what reads a part of a JSON text
abbrev pub Reader : Type 0 → Type 0
Reader A = parsing.Parser JsonKind A

-- RFC 8259, 2, ws: space, line feed, carriage return or tab
abbrev pub is_space : ℕ → Bool
is_space b = b == 32 || b == 10 || b == 13 || b == 9

-- RFC 8259, 2: what is left behind white space
abbrev pub after_space : List ℕ → List ℕ
after_space [] = []
after_space (b ∷ bytes) = if is_space b then after_space bytes else b ∷ bytes

-- RFC 8259, 2: takes white space
abbrev pub skip : Reader (Unit {0})
skip = λ i. Ok (tt, after_space i)

-- RFC 8259, 2: takes one byte, whatever it is
abbrev pub take_byte : Reader ℕ
take_byte [] = Err (0, End)
take_byte (b ∷ bytes) = Ok (b, bytes)

-- RFC 8259, 2: this byte, as a structural character
abbrev pub byte : ℕ → Reader (Unit {0})
byte c [] = Err (0, End)
byte c (b ∷ bytes) = if b == c then Ok (tt, bytes) else Err (length bytes + 1, Byte)

-- RFC 8259, 3: these bytes, as the name of a literal
abbrev pub word : List ℕ → Reader (Unit {0})
word [] bytes = Ok (tt, bytes)
word (c ∷ cs) bytes = and_then (byte c bytes) (λ _. word cs)

-- RFC 8259, 4 and 5, behind an item: a comma, and true, or the closing bracket, and false
abbrev pub more : ℕ → Reader Bool
more close [] = Err (0, End)
more close (b ∷ bytes) = if b == 44 then Ok (true, bytes) else if b == close then Ok (false, bytes) else Err (length bytes + 1, Byte)

-- as `Reads`, of a part of the text itself
abbrev pub ReadsPart : Outcome JsonKind (List ℕ) → Result (Bor (List ℕ)) (Stop JsonKind) → List ℕ → Type 0
ReadsPart outcome (Ok a) new = outcome ≡ Ok (a.now, new)
ReadsPart outcome (Err e) new = Stops outcome e
