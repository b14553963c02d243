-- Runs of bytes that pass a test, at the front of a text.
use Rattle.std.proofs.Common.{◌≡◌, ℕ, Bool, true, false, List, [], ◌∷◌, ◌++◌, length, refl, arith}
use Rattle.std.specs.List.{prefix_len}

-- each byte passes
abbrev pub AllPass : (ℕ → Bool) → List ℕ → Type 0
AllPass p [] = Unit {0}
AllPass p (b ∷ bs) = (p b ≡ true) × AllPass p bs

-- the first byte does not pass, if there is one
abbrev pub EndsRun : (ℕ → Bool) → List ℕ → Type 0
EndsRun p [] = Unit {0}
EndsRun p (b ∷ bs) = p b ≡ false

pub run_len : (p : ℕ → Bool) (u j : List ℕ) → AllPass p u → EndsRun p j → prefix_len p (u ++ j) ≡ length u
run_len p [] [] pass ends = refl
run_len p [] (b ∷ j) pass ends = rw ends refl
run_len p (b ∷ u) j pass ends = rw (pass.0, run_len p u j pass.1 ends) (omega arith)

pub pass_append : (p : ℕ → Bool) (u v : List ℕ) → AllPass p u → AllPass p v → AllPass p (u ++ v)
pass_append p [] v a b = b
pass_append p (x ∷ u) v a b = (a.0, pass_append p u v a.1 b)
