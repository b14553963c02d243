-- Answers, one after another.
use Rattle.std.proofs.Common.{◌∙◌, ℕ, ◌+◌, ◌<◌, List, [], ◌∷◌, ◌++◌, length, take, get_or, refl, sym, ap, append_assoc}
use Rattle.std.proofs.lemmas.List.{append-nil, take_more}
use Rattle.query_lines.specs.declared.queries.TowerQuery.{TowerQuery}
use Rattle.query_lines.specs.Answering.{AreAnswers}

one_more : (IsRight : TowerQuery → List ℕ → Type 0) (queries : List TowerQuery) (query : TowerQuery) (text line : List ℕ) → AreAnswers IsRight queries text → IsRight query line → AreAnswers IsRight (queries ++ query ∷ []) (text ++ line)
one_more IsRight [] query text line are is = (line, [], is, refl, ap (λ t. t ++ line) are ∙ sym (append-nil line))
one_more IsRight (first ∷ queries) query text line are is =
    let (front, rest, right, answers, text_is) = are in
    (front, rest ++ line, right, one_more IsRight queries query rest line answers is, ap (λ t. t ++ line) text_is ∙ append_assoc front rest line)

-- a line that answers the next query goes behind the answers to those before it
pub one_more_answer : (IsRight : TowerQuery → List ℕ → Type 0) (queries : List TowerQuery) (index : ℕ) (query : TowerQuery) (text line : List ℕ) → index < length queries → AreAnswers IsRight (take index queries) text → IsRight (get_or queries index query) line → AreAnswers IsRight (take (index + 1) queries) (text ++ line)
one_more_answer IsRight queries index query text line lt are is = rw (take_more queries index query lt) (one_more IsRight (take index queries) (get_or queries index query) text line are is)
