-- Steps that gave a value, and what each of them gave.
use Rattle.std.proofs.Common.{◌≡◌, ℕ, Bool, true, false, Option, Some, None, Result, Ok, Err, refl}
use Rattle.std.specs.Prelude.{IfOk, if◌then◌else◌}
use Rattle.gh_base.specs.declared.kinds.PbfKind.{PbfKind}
use Rattle.pbf_wire.specs.Wire.{◌>>=◌}
use Rattle.pbf_wire.specs.Faults.{◌>>◌, refuse, or_fault, is_run}

pub after_step : {A B K : Type 0} (r : Result A K) (f : A → Result B K) (Q : B → Type 0) → ((x : A) → r ≡ Ok x → IfOk (f x) Q) → IfOk (r >>= f) Q
after_step (Ok x) f Q h = h x refl
after_step (Err k) f Q h = tt

pub after_fact : {A B K : Type 0} (r : Result A K) (f : A → Result B K) (P : A → Type 0) (Q : B → Type 0) → IfOk r P → ((x : A) → P x → IfOk (f x) Q) → IfOk (r >>= f) Q
after_fact (Ok x) f P Q p h = h x p
after_fact (Err k) f P Q p h = tt

pub after_test : {B : Type 0} (test : Bool) (byte : ℕ) (kind : PbfKind) (rest : Result B (ℕ × PbfKind)) (Q : B → Type 0) → (test ≡ false → IfOk rest Q) → IfOk (refuse test byte kind >> rest) Q
after_test true byte kind rest Q h = tt
after_test false byte kind rest Q h = h refl

pub after_run : {B : Type 0} (bad : Option ℕ) (rest : Result B (ℕ × PbfKind)) (Q : B → Type 0) → (bad ≡ None → IfOk rest Q) → IfOk (is_run bad >> rest) Q
after_run None rest Q h = h refl
after_run (Some key) rest Q h = tt

pub after_value : {A B : Type 0} (found : Option A) (byte : ℕ) (kind : PbfKind) (f : A → Result B (ℕ × PbfKind)) (Q : B → Type 0) → ((x : A) → found ≡ Some x → IfOk (f x) Q) → IfOk (or_fault found byte kind >>= f) Q
after_value None byte kind f Q h = tt
after_value (Some x) byte kind f Q h = h x refl

pub after_skip : {A B K : Type 0} (r : Result A K) (rest : Result B K) (Q : B → Type 0) → IfOk rest Q → IfOk (r >> rest) Q
after_skip (Ok x) rest Q h = h
after_skip (Err k) rest Q h = tt

pub after_if : {B K : Type 0} (test : Bool) (a b : Result B K) (Q : B → Type 0) → (test ≡ true → IfOk a Q) → (test ≡ false → IfOk b Q) → IfOk (if test then a else b) Q
after_if true a b Q p q = p refl
after_if false a b Q p q = q refl

-- the value of the first step, where both gave one
pub first_value : {A B K : Type 0} (r : Result A K) (f : A → Result B K) (y : B) → (r >>= f) ≡ Ok y → (x : A) × (r ≡ Ok x) × (f x ≡ Ok y)
first_value (Ok x) f y e = (x, refl, e)
first_value (Err k) f y e = cc

-- two ways on that agree at the values that a step can give
pub same_after : {A B K : Type 0} (r : Result A K) (f g : A → Result B K) (P : A → Type 0) → IfOk r P → ((x : A) → P x → f x ≡ g x) → (r >>= f) ≡ (r >>= g)
same_after (Ok x) f g P p h = h x p
same_after (Err k) f g P p h = refl
