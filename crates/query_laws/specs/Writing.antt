-- How query lines are written.
use Rattle.std.specs.Prelude.{◌≢◌, ℕ, ℤ, List, [], ◌∷◌, ◌++◌, All, codes}
use Rattle.std.specs.Fmt.{signed_decimal}
use Rattle.gh_base.specs.Maps.{IsShort}
use Rattle.query_lines.specs.declared.queries.TowerQuery.{TowerQuery}

-- a line: from a tower to a tower; or one that says nothing, empty or behind a #
pub data Line : Type 0 where
  Asks : (from : ℤ) → (to : ℤ) → Line
  Empty : Line
  Remark : (text : List ℕ) → Line

-- n and an id
abbrev pub tower_word : ℤ → List ℕ
tower_word id = codes "n" ++ signed_decimal id

abbrev pub line_text : Line → List ℕ
line_text (Asks from to) = tower_word from ++ (codes " " ++ tower_word to)
line_text Empty = []
line_text (Remark text) = codes "#" ++ text

-- an id has at most eighteen digits, and what is behind a # has no newline
abbrev pub IsSayable : Line → Type 0
IsSayable (Asks from to) = IsShort from × IsShort to
IsSayable Empty = Unit {0}
IsSayable (Remark text) = All (λ b. b ≢ 10) text

-- lines, each with its newline
abbrev pub text_of : List Line → List ℕ
text_of [] = []
text_of (line ∷ lines) = line_text line ++ (10 ∷ text_of lines)

-- what a line asks, and lines
abbrev pub asks : Line → List TowerQuery
asks (Asks from to) = record { from = from; to = to } ∷ []
asks Empty = []
asks (Remark text) = []

abbrev pub all_ask : List Line → List TowerQuery
all_ask [] = []
all_ask (line ∷ lines) = asks line ++ all_ask lines
