-- What is answered and written, where the bytes of the lines are told.
use Rattle.std.proofs.Common.{ℕ, List, Option, Some, None}
use Rattle.std.specs.Prelude.{IfSome}
use Rattle.std.specs.Io.KnownBytes.{Appends}
use Rattle.map_roads.specs.Written.{Writes}
use Rattle.query_lines.specs.declared.queries.TowerQuery.{TowerQuery}
use Rattle.query_lines.specs.Lines.{AreQueries}
use Rattle.query_lines.specs.Answering.{AreAnswers, IsAnswered}

module _ (IsRight : TowerQuery → List ℕ → Type 0) (text : List ℕ) where
  pub answered : (queries : List TowerQuery) → AreAnswers IsRight queries text → (left : Option (List ℕ)) → IfSome left (λ held. AreQueries held queries) → IfSome left (λ bytes. IsAnswered IsRight bytes text)
  answered queries answers None are = tt
  answered queries answers (Some bytes) are = record { queries = queries; are = are; answers = answers }

  pub written : (left old new : Option (List ℕ)) → IfSome left (λ bytes. IsAnswered IsRight bytes text) → Appends old new text → IfSome left (λ bytes. Writes (IsAnswered IsRight bytes) old new)
  written None old new answers appends = tt
  written (Some bytes) old new answers appends = (text, answers, appends)
