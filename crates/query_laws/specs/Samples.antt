-- Lines with their faults.
use Rattle.std.specs.Prelude.{◌≡◌, ℕ, List, [], ◌∷◌, ◌++◌, Err, map, codes}
use Rattle.gh_base.specs.declared.kinds.ScriptKind.{ScriptKind}
use Rattle.gh_base.specs.declared.kinds.ScriptKind.TheVariants as kind
use Rattle.query_lines.specs.Queries.{query_at}

abbrev pub line : List ℕ → ℕ → ScriptKind → List ℕ × (ℕ × ScriptKind)
line text byte kind = (text, (byte, kind))

-- each line with its byte and its kind
abbrev pub faults : List (List ℕ × (ℕ × ScriptKind))
faults =
    line (codes "n1") 2 kind.Word ∷
    line (codes "n123") 4 kind.Word ∷
    line (codes "n1 n2 n3") 6 kind.Word ∷
    line (codes "n1 n-22 ") 8 kind.Word ∷
    line (codes "1 n2") 0 kind.Place ∷
    line (codes "N1 n2") 0 kind.Place ∷
    line (codes "n n2") 0 kind.Place ∷
    line (codes "n+1 n2") 0 kind.Place ∷
    line (codes "n1,n2") 0 kind.Place ∷
    line (codes "n1234567890123456789 n2") 0 kind.Place ∷
    line (codes " n1 n2") 0 kind.Place ∷
    line (codes "47.1,9.5 n2") 0 kind.Place ∷
    line (codes "n1 2") 3 kind.Place ∷
    line (codes "n12  n2") 4 kind.Place ∷
    line (codes "n12 n2x") 4 kind.Place ∷
    line (codes "n12 n2" ++ 13 ∷ []) 4 kind.Place ∷
    line (codes "n1 n2" ++ 255 ∷ []) 5 kind.Utf8 ∷
    line (128 ∷ []) 0 kind.Utf8 ∷ []

-- each fault at its byte; behind 65536 queries any line that isn't passed over is one too many
pub record LineFaultsAreSo : Type 0 where
  pub lines : map (λ (l : List ℕ × (ℕ × ScriptKind)). query_at 0 l.0) faults ≡ map (λ (l : List ℕ × (ℕ × ScriptKind)). Err l.1) faults
  pub too_many : query_at 65536 (codes "n1 n2") ≡ Err (0, kind.TooMany)
  pub strange : query_at 65536 (codes "x") ≡ Err (0, kind.TooMany)
