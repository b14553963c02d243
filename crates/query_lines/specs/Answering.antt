-- Texts that answer queries line by line.
use Rattle.std.specs.Prelude.{◌≡◌, ℕ, List, [], ◌∷◌, ◌++◌}
use Rattle.query_lines.specs.declared.queries.TowerQuery.{TowerQuery}
use Rattle.query_lines.specs.Lines.{AreQueries}

-- a right line for each query, in order, and nothing else
abbrev pub AreAnswers : (TowerQuery → List ℕ → Type 0) → List TowerQuery → List ℕ → Type 0
AreAnswers IsRight [] text = text ≡ []
AreAnswers IsRight (query ∷ queries) text =
    (line : List ℕ) × (rest : List ℕ) × IsRight query line × AreAnswers IsRight queries rest × (text ≡ line ++ rest)

-- they answer the queries that bytes are
pub record IsAnswered (IsRight : TowerQuery → List ℕ → Type 0) (bytes text : List ℕ) : Type 0 where
  pub queries : List TowerQuery
  pub are : AreQueries bytes queries
  pub answers : AreAnswers IsRight queries text
