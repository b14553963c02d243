-- A list that grows before what is left.
use Rattle.std.proofs.Common.{◌≡◌, List, [], ◌∷◌, ◌++◌, Result, Ok, Err, refl, ap, append_assoc}
use Rattle.pbf_wire.specs.Wire.{◌>>=◌}

abbrev pub with_front : {A K : Type 0} → List A → Result (List A) K → Result (List A) K
with_front front (Ok rest) = Ok (front ++ rest)
with_front front (Err k) = Err k

pub front_more : {A K : Type 0} (front : List A) (x : A) (read : Result (List A) K) → with_front (front ++ x ∷ []) read ≡ with_front front (read >>= λ rest. Ok (x ∷ rest))
front_more front x (Ok rest) = ap Ok (append_assoc front (x ∷ []) rest)
front_more front x (Err k) = refl

pub front_nil : {A K : Type 0} (read : Result (List A) K) → with_front [] read ≡ read
front_nil (Ok rest) = refl
front_nil (Err k) = refl
