-- Reading from the left, for any grammar: a value and the bytes behind it, or the first fault and how many bytes are left there.
-- K is what a grammar can find wrong.
use Rattle.std.specs.Prelude.{◌≡◌, ℕ, zero, suc, Bool, false, List, [], ◌∷◌, length, Option, Some, None, Result, Ok, Err, ◌==◌, if◌then◌else◌}
use Rattle.exact_json.specs.declared.stop.Stop.{Stop}
use Rattle.exact_json.specs.declared.stop.Stop.TheVariants as stops

-- a value and what is left behind it, or how many bytes are left at the fault, and what is wrong
abbrev pub Outcome : Type 0 → Type 0 → Type 0
Outcome K A = Result (A × List ℕ) (ℕ × K)

-- what reads a value from the front of a text
abbrev pub Parser : Type 0 → Type 0 → Type 0
Parser K A = List ℕ → Outcome K A

-- goes on behind a value
abbrev pub and_then : {K A B : Type 0} → Outcome K A → (A → Parser K B) → Outcome K B
and_then (Ok p) f = f p.0 p.1
and_then (Err e) f = Err e

infixl 10 ◌>>=◌
-- one after another, the second by the first's value
abbrev pub ◌>>=◌ : {K A B : Type 0} → Parser K A → (A → Parser K B) → Parser K B
p >>= f = λ i. and_then (p i) f

infixl 10 ◌>>◌
-- one after another
abbrev pub ◌>>◌ : {K A B : Type 0} → Parser K A → Parser K B → Parser K B
p >> q = p >>= (λ _. q)

-- a value that takes no byte
abbrev pub pure : {K A : Type 0} → A → Parser K A
pure a = λ i. Ok (a, i)

-- a fault at the next byte
abbrev pub refuse : {K A : Type 0} → K → Parser K A
refuse kind = λ i. Err (length i, kind)

-- a fault where this many bytes were left
abbrev pub fault : {K A : Type 0} → ℕ → K → Parser K A
fault start kind = λ i. Err (start, kind)

-- how many bytes are left
abbrev pub left : {K : Type 0} → Parser K ℕ
left = λ i. Ok (length i, i)

-- the next byte
abbrev pub front : List ℕ → Option ℕ
front [] = None
front (b ∷ bytes) = Some b

-- whether this byte comes next
abbrev pub sees : ℕ → List ℕ → Bool
sees c [] = false
sees c (b ∷ bytes) = b == c

-- what is left behind this byte, if it comes next
abbrev pub after : ℕ → List ℕ → List ℕ
after c [] = []
after c (b ∷ bytes) = if b == c then bytes else b ∷ bytes

-- takes this byte, if it comes next
abbrev pub eat : {K : Type 0} → ℕ → Parser K Bool
eat c = λ i. Ok (sees c i, after c i)

-- turns of a reader, each of which may go on from a state; the number bounds them, and behind them the kind stands for the end
abbrev pub turns : {K S A : Type 0} → K → ((S → Parser K A) → S → Parser K A) → ℕ → S → Parser K A
turns late turn zero s = refuse late
turns late turn (suc n) s = turn (turns late turn n) s

-- a stop is the fault of the outcome, unless memory ran out
abbrev pub Stops : {K A : Type 0} → Outcome K A → Stop K → Type 0
Stops outcome stops.NoMemory = Unit {0}
Stops outcome (stops.At left kind) = outcome ≡ Err (left, kind)

-- what a reader answers, and what it leaves, is the outcome
abbrev pub Reads : {K A : Type 0} → Outcome K A → Result A (Stop K) → List ℕ → Type 0
Reads outcome (Ok a) new = outcome ≡ Ok (a, new)
Reads outcome (Err e) new = Stops outcome e
