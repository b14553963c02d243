-- A text pushed in two parts.
use Rattle.std.proofs.Common.{◌≡◌, ◌∙◌, ℕ, List, ◌++◌, Result, Ok, Err, OnOk, ap, append_assoc}

pub pushed : {U E : Type 0} (result : Result U E) (old mid now text word wanted : List ℕ) → OnOk result (now ≡ mid ++ word) → mid ≡ old ++ text → word ≡ wanted → OnOk result (now ≡ old ++ (text ++ wanted))
pushed (Ok u) old mid now text word wanted rest front same =
    rest ∙ ap (λ xs. xs ++ word) front ∙ append_assoc old text word ∙ ap (λ xs. old ++ (text ++ xs)) same
pushed (Err f) old mid now text word wanted rest front same = tt
