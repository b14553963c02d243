-- What holds of each element of a list that is written out holds of what it has.
use Rattle.std.proofs.Common.{ℕ, suc, zero, ◌<◌, List, [], ◌∷◌, length, get_or, Contains, subst, arith}

abbrev pub AllAre : {A : Type 0} → (A → Type 0) → List A → Type 0
AllAre P [] = Unit {0}
AllAre P (x ∷ xs) = P x × AllAre P xs

one_of : {A : Type 0} (P : A → Type 0) (xs : List A) (k : ℕ) → AllAre P xs → k < length xs → (d : A) → P (get_or xs k d)
one_of P [] k h lt d = absurd (omega arith)
one_of P (x ∷ xs) zero h lt d = h.0
one_of P (x ∷ xs) (suc k) h lt d = one_of P xs k h.1 (omega arith) d

pub of_all : {A : Type 0} (P : A → Type 0) (xs : List A) (x : A) → AllAre P xs → Contains xs x → P x
of_all P xs x all c = subst P c.2 (one_of P xs c.0 all c.1 x)
