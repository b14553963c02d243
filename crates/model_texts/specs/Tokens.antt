-- Tokens of conditions and expressions: names, numbers, operators and single bytes, each as long as it can be, with
-- spaces between them (GraphHopper documentation, "Custom models"; the exact form is this project's own).
use Rattle.std.specs.Prelude.{ℕ, ◌-◌, min, Bool, ◌||◌, ◌&&◌, List, [], ◌∷◌, length, take, drop, Option, Some, None, Result, Ok, Err, ◌==◌, nat_le, if◌then◌else◌}
use Rattle.std.specs.List.{prefix_len}
use Rattle.std.specs.Char.{is_ascii_digit}
use Rattle.std.specs.Str.{bytes_eq}
use Rattle.gh_base.specs.declared.kinds.ModelKind.{ModelKind}
use Rattle.exact_json.specs.Parsing as parsing
use Rattle.exact_json.specs.Parsing.{◌>>◌, pure}

-- what reads a part of a text
abbrev pub Reader : Type 0 → Type 0
Reader A = parsing.Parser ModelKind A

-- a letter or an underscore
abbrev pub begins_word : ℕ → Bool
begins_word b = (nat_le 97 b && nat_le b 122) || (nat_le 65 b && nat_le b 90) || b == 95

abbrev pub in_word : ℕ → Bool
in_word b = begins_word b || is_ascii_digit b

-- a digit or a point
abbrev pub in_number : ℕ → Bool
in_number b = is_ascii_digit b || b == 46

-- two bytes that are one operator: == != <= >= && ||
abbrev pub is_pair : ℕ → ℕ → Bool
is_pair a b = ((a == 61 || a == 33 || a == 60 || a == 62) && b == 61) || (a == 38 && b == 38) || (a == 124 && b == 124)

abbrev pub pair_len : ℕ → List ℕ → ℕ
pair_len a [] = 1
pair_len a (b ∷ bytes) = if is_pair a b then 2 else 1

-- the length of the token at the front, as long as it can be
abbrev pub token_len : List ℕ → ℕ
token_len [] = 0
token_len (b ∷ bytes) =
    if begins_word b then prefix_len in_word (b ∷ bytes)
    else if in_number b then prefix_len in_number (b ∷ bytes)
    else pair_len b bytes

abbrev pub after_space : List ℕ → List ℕ
after_space [] = []
after_space (b ∷ bytes) = if b == 32 then after_space bytes else b ∷ bytes

-- the next token; empty at the end
unfoldable pub spelling : List ℕ → List ℕ
spelling i = take (token_len (after_space i)) (after_space i)

-- what is left behind it
unfoldable pub next : List ℕ → List ℕ
next i = drop (token_len (after_space i)) (after_space i)

-- how many bytes are left from the next token on
unfoldable pub ahead : List ℕ → ℕ
ahead i = length (after_space i)

-- sees the next token
abbrev pub peek : Reader (List ℕ)
peek = λ i. Ok (spelling i, i)

-- takes the next token
abbrev pub advance : Reader (Unit {0})
advance = λ i. Ok (tt, next i)

-- a fault at the next token, or at the end
abbrev pub unfit : {A : Type 0} → ModelKind → Reader A
unfit kind = λ i. Err (ahead i, kind)

-- whether this token comes next
unfoldable pub sees : List ℕ → List ℕ → Bool
sees token i = bytes_eq (spelling i) token

unfoldable pub after : List ℕ → List ℕ → List ℕ
after token i = if sees token i then next i else i

-- takes this token, if it comes next
abbrev pub eat : List ℕ → Reader Bool
eat token = λ i. Ok (sees token i, after token i)

-- takes this token, or refuses what comes next
unfoldable pub expect : ModelKind → List ℕ → Reader (Unit {0})
expect kind token = λ i. if sees token i then Ok (tt, next i) else unfit kind i

-- takes the token that is something, or refuses it
abbrev pub known : {A : Type 0} → ModelKind → Option A → Reader A
known kind None = unfit kind
known kind (Some x) = advance >> pure x

-- nothing comes next
unfoldable pub finish : ModelKind → Reader (Unit {0})
finish kind = λ i. if ahead i == 0 then Ok (tt, i) else unfit kind i

-- the byte, counted from 0, where so many are left; no byte is told beyond the greatest number of 32 bits
abbrev pub byte_at : ℕ → ℕ → ℕ
byte_at size left = min (size - left) 4294967295

-- the value that a whole text is, or its first fault by its byte
abbrev pub by_byte : {A : Type 0} → ℕ → parsing.Outcome ModelKind A → Result A (ℕ × ModelKind)
by_byte size (Ok p) = Ok p.0
by_byte size (Err e) = Err (byte_at size e.0, e.1)
