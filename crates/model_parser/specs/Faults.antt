-- A part of a model, or the first fault with its place: the part, the item, counted from 1 (0 is the part itself), and
-- the byte.
use Rattle.std.specs.Prelude.{◌≡◌, ℕ, Bool, List, [], ◌∷◌, ◌++◌, Option, Some, None, Result, Ok, Err, if◌then◌else◌}
use Rattle.gh_base.specs.declared.kinds.Part.{Part}
use Rattle.gh_base.specs.declared.kinds.Place3.{Place3}
use Rattle.gh_base.specs.declared.kinds.ModelKind.{ModelKind}
use Rattle.model_parser.specs.declared.fault.ModelFault.{ModelFault}
use Rattle.model_parser.specs.declared.fault.ModelFault.TheVariants as faults

abbrev pub Outcome : Type 0 → Type 0
Outcome A = Result A (Place3 × ModelKind)

infixl 10 ◌>>=◌
-- one after another, up to the first fault
abbrev pub ◌>>=◌ : {A B : Type 0} → Outcome A → (A → Outcome B) → Outcome B
(Ok a) >>= f = f a
(Err e) >>= f = Err e

infixl 10 ◌>>◌
abbrev pub ◌>>◌ : {A B : Type 0} → Outcome A → Outcome B → Outcome B
p >> q = p >>= (λ _. q)

abbrev pub pure : {A : Type 0} → A → Outcome A
pure a = Ok a

-- a fault of an item itself
abbrev pub fault : {A : Type 0} → Part → ℕ → ModelKind → Outcome A
fault part item kind = Err (record { part = part; item = item; byte = 0 }, kind)

-- what is there, or a fault
abbrev pub known : {A : Type 0} → Part → ℕ → ModelKind → Option A → Outcome A
known part item kind (Some a) = Ok a
known part item kind None = fault part item kind

-- a fault, unless this is so
abbrev pub must : Part → ℕ → ModelKind → Bool → Outcome (Unit {0})
must part item kind is = if is then Ok tt else fault part item kind

-- what a text of an item is, or its fault by its byte
abbrev pub in_text : {A : Type 0} → Part → ℕ → Result A (ℕ × ModelKind) → Outcome A
in_text part item (Ok a) = Ok a
in_text part item (Err e) = Err (record { part = part; item = item; byte = e.0 }, e.1)

-- each of these, in order, behind what was found
abbrev pub each : {A B : Type 0} → (A → Outcome B) → List B → List A → Outcome (List B)
each read found [] = Ok found
each read found (x ∷ xs) = read x >>= λ y. each read (found ++ y ∷ []) xs

-- what is answered is the outcome, unless memory ran out
abbrev pub Answers : {A : Type 0} → Outcome A → Result A ModelFault → Type 0
Answers outcome (Ok a) = outcome ≡ Ok a
Answers outcome (Err faults.NoMemory) = Unit {0}
Answers outcome (Err (faults.At place kind)) = outcome ≡ Err (place, kind)
