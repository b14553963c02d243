-- Conditions: alternatives of conjunctions of negations of atoms (GraphHopper documentation, "Custom models",
-- conditions; the exact form is this project's own).
use Rattle.std.specs.Prelude.{◌≡◌, ℕ, zero, suc, ◌+◌, ◌||◌, List, [], ◌∷◌, ◌++◌, length, Option, Some, None, Result, Ok, Err, ◌==◌, nat_lt, if◌then◌else◌, codes}
use Rattle.std.specs.List.{count_by}
use Rattle.std.specs.Str.{bytes_eq}
use Rattle.gh_base.specs.declared.kinds.ModelKind.{ModelKind}
use Rattle.gh_base.specs.declared.kinds.ModelKind.TheVariants.{Condition, Name, TooMany}
use Rattle.exact_json.specs.Parsing.{◌>>=◌, ◌>>◌, pure, turns}
use Rattle.model_eval.specs.declared.conditions.FlagName.{FlagName}
use Rattle.model_eval.specs.declared.conditions.WordName.{WordName}
use Rattle.model_eval.specs.declared.conditions.NumberName.{NumberName}
use Rattle.model_eval.specs.declared.conditions.Test.{Test}
use Rattle.model_eval.specs.declared.conditions.Test.TheVariants as t
use Rattle.model_eval.specs.declared.custom_model.Area.{Area}
use Rattle.model_texts.specs.declared.fault.ConditionFault.{ConditionFault}
use Rattle.model_texts.specs.declared.fault.ConditionFault.TheVariants as faults
use Rattle.model_texts.specs.Tokens.{Reader, begins_word, peek, advance, unfit, eat, expect, known, finish, by_byte}
use Rattle.model_texts.specs.Words.{flag_of, enum_of, number_of, op_of, equal_of, word_of, area_of}
use Rattle.model_texts.specs.Amounts.{constant_of}

-- where a name or a word could stand, a token that begins as one is Name, any other Condition
abbrev pub kind_of : List ℕ → ModelKind
kind_of [] = Condition
kind_of (b ∷ bytes) = if begins_word b then Name else Condition

-- a part, and what goes on behind this token
abbrev pub part_turn : Reader Test → List ℕ → (List Test → Reader (List Test)) → List Test → Reader (List Test)
part_turn part token go_on found = do
  x ← part
  more ← eat token
  if more then go_on (found ++ x ∷ []) else pure (found ++ x ∷ [])

-- one part or more, with this token between them
unfoldable pub parts : Reader Test → List ℕ → Reader (List Test)
parts part token = λ i. turns Condition (part_turn part token) (length i) [] i

-- one part stands for itself
abbrev pub ands : List Test → Test
ands (x ∷ []) = x
ands xs = t.And xs

abbrev pub ors : List Test → Test
ors (x ∷ []) = x
ors xs = t.Or xs

abbrev pub nots : ℕ → Test → Test
nots zero x = x
nots (suc n) x = t.Not (nots n x)

-- one more exclamation mark, if it comes next
abbrev pub bang_turn : (ℕ → Reader ℕ) → ℕ → Reader ℕ
bang_turn go_on n = do
  more ← eat (codes "!")
  if more then go_on (n + 1) else pure n

-- how many exclamation marks come next
unfoldable pub bangs : Reader ℕ
bangs = λ i. turns Condition bang_turn (length i) 0 i

-- behind a number: an operator, and a decimal
unfoldable pub comparison : NumberName → Reader Test
comparison name = do
  sign ← peek
  op ← known Condition (op_of sign)
  constant ← peek
  value ← known Condition (constant_of constant)
  pure (t.Compare name op value)

-- behind an enum: == or !=, and one of its words
unfoldable pub is_word : WordName → Reader Test
is_word name = do
  sign ← peek
  equal ← known Condition (equal_of sign)
  written ← peek
  place ← known (kind_of written) (word_of name written)
  pure (t.Word name equal place)

-- by what a word is: a whole condition, the name of an enum or of a number
abbrev pub named : Option Test → Option WordName → Option NumberName → ModelKind → Reader Test
named (Some x) word number kind = advance >> pure x
named None (Some name) number kind = advance >> is_word name
named None None (Some name) kind = advance >> comparison name
named None None None kind = unfit kind

abbrev pub flag_or : Option FlagName → Option ℕ → Option Test
flag_or (Some f) area = Some (t.Flag f)
flag_or None (Some n) = Some (t.InArea n)
flag_or None None = None

-- over these areas
module _ (areas : List Area) where
  -- a word that is a condition by itself
  abbrev pub alone : List ℕ → Option Test
  alone s =
      if bytes_eq s (codes "true") then Some t.True
      else if bytes_eq s (codes "false") then Some t.False
      else flag_or (flag_of s) (area_of areas s)

  -- a condition without parentheses
  unfoldable pub plain : Reader Test
  plain = do
    s ← peek
    named (alone s) (enum_of s) (number_of s) (kind_of s)

  -- parentheses round what this reads, or a plain condition
  unfoldable pub atom : Reader Test → Reader Test
  atom inner = do
    is_open ← eat (codes "(")
    if is_open then (do x ← inner; expect Condition (codes ")"); pure x) else plain

  -- exclamation marks, and an atom
  unfoldable pub negation : Reader Test → Reader Test
  negation inner = do
    n ← bangs
    x ← atom inner
    pure (nots n x)

  -- negations with && between them
  unfoldable pub conjunction : Reader Test → Reader Test
  conjunction inner = do
    xs ← parts (negation inner) (codes "&&")
    pure (ands xs)

  -- conjunctions with || between them
  unfoldable pub alternative : Reader Test → Reader Test
  alternative inner = do
    xs ← parts (conjunction inner) (codes "||")
    pure (ors xs)

  -- a condition in which fewer parentheses than a number are open at once
  unfoldable pub test_at : ℕ → Reader Test
  test_at zero = unfit Condition
  test_at (suc depth) = alternative (test_at depth)

  -- a condition, and the end
  abbrev pub whole : Reader Test
  whole = do
    x ← test_at 33
    finish Condition
    pure x

  -- the condition that a text is, or its first fault; a text of more than 1000 bytes or 32 opening parentheses isn't read
  unfoldable pub condition_of : List ℕ → Result Test (ℕ × ModelKind)
  condition_of text =
      if nat_lt 1000 (length text) || nat_lt 32 (count_by (λ b. b == 40) text) then Err (0, TooMany)
      else by_byte (length text) (whole text)

-- what `read_condition` answers is what the text is, unless memory ran out
abbrev pub Answers : Result Test (ℕ × ModelKind) → Result Test ConditionFault → Type 0
Answers outcome (Ok x) = outcome ≡ Ok x
Answers outcome (Err faults.NoMemory) = Unit {0}
Answers outcome (Err (faults.At bad)) = outcome ≡ Err (bad.byte, bad.kind)
