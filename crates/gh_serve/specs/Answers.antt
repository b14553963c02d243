-- What query lines are answered, by the way that is asked for.
use Rattle.std.specs.Prelude.{ℕ, List, Option}
use Rattle.gh_base.specs.declared.kinds.Form.{Form}
use Rattle.map_roads.specs.Cars.{AreFewOfPrep}
use Rattle.map_roads.specs.Statuses.{IsMap}
use Rattle.query_lines.specs.Lines.{IsQueryText}
use Rattle.map_roads.specs.Written.{Writes, WritesFront}
use Rattle.both_runs.specs.Runs.{IsBothText}
use Rattle.turn_runs.specs.Runs.{IsTurnText}
use Rattle.gh_serve.specs.Runs.{Way, FromBothEnds, UnderTurns}

-- which texts answer the queries over the map's roads for cars
abbrev pub IsAnswerText : Way → Form → List ℕ → ℕ → List ℕ → List ℕ → Type 0
IsAnswerText FromBothEnds = IsBothText
IsAnswerText UnderTurns = IsTurnText

-- where they are known, behind its old bytes the sink has such a text
abbrev pub Answers : Way → Form → List ℕ → ℕ → List ℕ → Option (List ℕ) → Option (List ℕ) → Type 0
Answers way form held count bytes old new = Writes (IsAnswerText way form held count bytes) old new

-- or a front of it
abbrev pub AnswersFront : Way → Form → List ℕ → ℕ → List ℕ → Option (List ℕ) → Option (List ℕ) → Type 0
AnswersFront way form held count bytes old new = WritesFront (IsAnswerText way form held count bytes) old new

-- map and lines are right, and so many landmarks have no more labels than may be asked for
pub record IsAnswerable (form : Form) (held : List ℕ) (count : ℕ) (bytes : List ℕ) : Type 0 where
  pub map : IsMap form held
  pub few : AreFewOfPrep form held count
  pub lines : IsQueryText bytes
