-- Laws of query lines, each a statement of its own.
use Rattle.std.specs.Prelude.{◌≡◌, ◌≢◌, ℕ, ◌+◌, ◌≤◌, List, [], ◌∷◌, ◌++◌, length, Ok, Err, All}
use Rattle.gh_base.specs.declared.kinds.ScriptKind.{ScriptKind}
use Rattle.script_text.specs.declared.fault.ScriptFault.TheVariants.{At}
use Rattle.query_lines.specs.Queries.{queries_of, query_at}
use Rattle.query_laws.specs.Writing.{Line, IsSayable, all_ask, line_text, text_of}

-- at most 65536 queries are read from their lines, in order; the last line may end without a newline
abbrev pub QueriesAreRead : Type 0
QueriesAreRead = (lines : List Line) (last : Line) → All IsSayable (lines ++ last ∷ []) → length (all_ask (lines ++ last ∷ [])) ≤ 65536 →
    queries_of (text_of lines ++ line_text last) ≡ Ok (all_ask (lines ++ last ∷ []))

-- a line that has a fault by itself gives it to the text, at its number from 1 and its byte, whatever follows
abbrev pub FaultsStandAtTheirLine : Type 0
FaultsStandAtTheirLine = (lines : List Line) (line rest : List ℕ) (byte : ℕ) (kind : ScriptKind) → All IsSayable lines → length (all_ask lines) ≤ 65536 → All (λ b. b ≢ 10) line →
    query_at (length (all_ask lines)) line ≡ Err (byte, kind) → queries_of (text_of lines ++ (line ++ 10 ∷ rest)) ≡ Err (At (length lines + 1) byte kind)
