-- The table of a block's strings while it grows.
use Rattle.std.specs.Prelude.{◌≡◌, ℕ, List, [], ◌∷◌, ◌++◌, map, if◌then◌else◌}
use Rattle.std.specs.List.{list_any}
use Rattle.std.specs.Str.{bytes_eq}
use Rattle.indexmap.specs.IndexSet.{IndexSet}
use denote.Ref.{Bor}
use Rattle.pbf_wire.specs.Writing.{strings_text}
use Rattle.pbf_writer.specs.declared.strings.Strings.{Strings}

-- the strings of a table, as bytes
abbrev pub spelled : {S : Type 0} → IndexSet (Bor (List ℕ)) S → List (List ℕ)
spelled set = map (λ word. word.now) set.keys

-- a new string goes last
abbrev pub with_word : List (List ℕ) → List ℕ → List (List ℕ)
with_word table word = if list_any (bytes_eq word) table then table else table ++ word ∷ []

abbrev pub grown : List (List ℕ) → List (List ℕ) → List (List ℕ)
grown table [] = table
grown table (word ∷ words) = grown (with_word table word) words

-- the table is written
abbrev pub IsText : Strings → Type 0
IsText strings = strings.text.items ≡ strings_text (spelled strings.words)
