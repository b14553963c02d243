-- Lines of queries (this project's own form): each names two towers as `n` and an id.
use Rattle.std.specs.Prelude.{ℕ, ℤ, ◌+◌, ◌==◌, nat_lt, if◌then◌else◌, List, [], ◌∷◌, ◌++◌, length, Option, Some, None, Result, Ok, Err}
use Rattle.std.specs.Str.Lossy.{utf8_valid_len}
use Rattle.gh_base.specs.declared.kinds.ScriptKind.{ScriptKind}
use Rattle.gh_base.specs.declared.kinds.ScriptKind.TheVariants as kind
use Rattle.gh_base.specs.Decimals.{id_of}
use Rattle.gh_base.specs.Parts.{parts_of}
use Rattle.script_text.specs.declared.fault.ScriptFault.{ScriptFault}
use Rattle.script_text.specs.Fields.{behind}
use Rattle.script_text.specs.Grammar.{at_line, and_so}
use Rattle.script_text.specs.LineReading.{◌>>=◌, ◌>>◌, Outcome, Reader, pure, word_as, last}
use Rattle.script_text.specs.Lines.{is_passed}
use Rattle.query_lines.specs.declared.queries.TowerQuery.{TowerQuery}

-- the id that stands behind a letter, where the letter does
abbrev pub id_behind : Option (List ℕ) → Option ℤ
id_behind None = None
id_behind (Some digits) = id_of digits

-- `n` and an id
unfoldable pub tower_of : List ℕ → Option ℤ
tower_of word = id_behind (behind 110 word)

-- the next word as a tower
abbrev pub tower : Reader ℤ
tower = word_as kind.Place tower_of

-- two towers, and no word more
unfoldable pub query : Reader TowerQuery
query = do
  from ← tower
  to ← tower
  last
  pure (record { from = from; to = to })

-- the query that was read, or the fault
abbrev pub found_in : Outcome TowerQuery → Result (Option TowerQuery) (ℕ × ScriptKind)
found_in (Ok read) = Ok (Some read.0)
found_in (Err fault) = Err fault

-- the most queries
abbrev pub most_queries : ℕ
most_queries = 65536

-- the query of a text behind so many others; one too many is a fault at its first byte, whatever its words are
abbrev pub query_in : ℕ → List ℕ → Result (Option TowerQuery) (ℕ × ScriptKind)
query_in count text = if nat_lt count most_queries then found_in (query (0, parts_of 32 text)) else Err (0, kind.TooMany)

-- no query where the line is passed over, and else the one that it is, or its first fault
unfoldable pub query_at : ℕ → List ℕ → Result (Option TowerQuery) (ℕ × ScriptKind)
query_at count line =
    if is_passed line then Ok None
    else if utf8_valid_len line == length line then query_in count line
    else Err (utf8_valid_len line, kind.Utf8)

-- the queries before, and one more where there is one
abbrev pub and_one : List TowerQuery → Option TowerQuery → List TowerQuery
and_one before None = before
and_one before (Some found) = before ++ found ∷ []

-- those of the lines from this number on, behind those before, or the first fault
abbrev pub queries_from : ℕ → List TowerQuery → List (List ℕ) → Result (List TowerQuery) ScriptFault
queries_from number before [] = Ok before
queries_from number before (line ∷ lines) =
    and_so (at_line number (query_at (length before) line)) (λ found. queries_from (number + 1) (and_one before found) lines)

-- the queries that these bytes are, or their first fault
unfoldable pub queries_of : List ℕ → Result (List TowerQuery) ScriptFault
queries_of bytes = queries_from 1 [] (parts_of 10 bytes)
