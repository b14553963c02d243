-- Reading the words of a line from the left: a value and the words behind it, or the first fault with its byte.
use Rattle.std.specs.Prelude.{◌≡◌, ℕ, ◌+◌, ◌-◌, List, [], ◌∷◌, length, Option, Some, None, Result, Ok, Err}
use Rattle.std.specs.List.{join_with_byte}
use Rattle.gh_base.specs.declared.kinds.ScriptKind.{ScriptKind}
use Rattle.gh_base.specs.declared.kinds.ScriptKind.TheVariants.{Word}
use Rattle.script_text.specs.declared.fault.LineFault.{LineFault}
use Rattle.script_text.specs.declared.fault.LineFault.TheVariants as faults

-- the byte where the next word begins, and the words from there on; behind the last it is the byte behind the line's end
abbrev pub Rest : Type 0
Rest = ℕ × List (List ℕ)

-- a value and what is left behind it, or the byte of the fault and what is wrong there
abbrev pub Outcome : Type 0 → Type 0
Outcome A = Result (A × Rest) (ℕ × ScriptKind)

-- what reads a value from the next words
abbrev pub Reader : Type 0 → Type 0
Reader A = Rest → Outcome A

abbrev pub and_then : {A B : Type 0} → Outcome A → (A → Reader B) → Outcome B
and_then (Ok p) f = f p.0 p.1
and_then (Err e) f = Err e

infixl 10 ◌>>=◌
-- one after another, the second by the first's value
abbrev pub ◌>>=◌ : {A B : Type 0} → Reader A → (A → Reader B) → Reader B
p >>= f = λ r. and_then (p r) f

infixl 10 ◌>>◌
abbrev pub ◌>>◌ : {A B : Type 0} → Reader A → Reader B → Reader B
p >> q = p >>= (λ _. q)

-- a value that takes no word
abbrev pub pure : {A : Type 0} → A → Reader A
pure a = λ r. Ok (a, r)

-- a fault at a byte
abbrev pub fault : {A : Type 0} → ℕ → ScriptKind → Reader A
fault byte kind = λ r. Err (byte, kind)

-- a value that there is, or a fault
abbrev pub known : {A : Type 0} → ℕ → ScriptKind → Option A → Reader A
known byte kind None = fault byte kind
known byte kind (Some x) = pure x

abbrev pub next_of : ℕ → List (List ℕ) → Outcome (ℕ × List ℕ)
next_of at [] = Err (at - 1, Word)
next_of at (word ∷ words) = Ok ((at, word), (at + length word + 1, words))

-- the next word, with its byte; a missing one is a fault at the line's end
abbrev pub next : Reader (ℕ × List ℕ)
next = λ r. next_of r.0 r.1

-- the next word as what it stands for
abbrev pub word_as : {A : Type 0} → ScriptKind → (List ℕ → Option A) → Reader A
word_as kind meaning = next >>= (λ p. known p.0 kind (meaning p.1))

abbrev pub last_of : ℕ → List (List ℕ) → Outcome (Unit {0})
last_of at [] = Ok (tt, (at, []))
last_of at (word ∷ words) = Err (at, Word)

-- no word is left
abbrev pub last : Reader (Unit {0})
last = λ r. last_of r.0 r.1

abbrev pub rest_of : ℕ → List (List ℕ) → Option (ℕ × List ℕ)
rest_of at [] = None
rest_of at (word ∷ words) = Some (at, join_with_byte 32 (word ∷ words))

-- the rest of the line as it stands, with its byte, where there is more
abbrev pub rest : Reader (Option (ℕ × List ℕ))
rest = λ r. Ok (rest_of r.0 r.1, (r.0, []))

-- a stop is the fault of the outcome, unless memory ran out
abbrev pub Stops : {A : Type 0} → Outcome A → LineFault → Type 0
Stops outcome faults.NoMemory = Unit {0}
Stops outcome (faults.At byte kind) = outcome ≡ Err (byte, kind)

-- what a reader answers, and what it leaves, is the outcome
abbrev pub Reads : {A : Type 0} → Outcome A → Result A LineFault → Rest → Type 0
Reads outcome (Ok a) new = outcome ≡ Ok (a, new)
Reads outcome (Err e) new = Stops outcome e
