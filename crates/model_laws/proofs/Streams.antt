-- Texts as the tokens that are read from them, one by one.
use Rattle.std.proofs.Common.{◌≡◌, ℕ, zero, suc, ◌<◌, ◌≤◌, List, [], ◌∷◌, ◌++◌, length, take, length-drop, Bool, true, false, cond, eqb, refl, arith}
use Rattle.model_texts.specs.Tokens.{token_len, after_space, spelling, next}

-- these tokens are read from i, and this is left
abbrev pub AreRead : List (List ℕ) → List ℕ → List ℕ → Type 0
AreRead [] i rest = i ≡ rest
AreRead (token ∷ tokens) i rest = (spelling i ≡ token) × ((0 < length token) × AreRead tokens (next i) rest)

-- where tokens end and others begin
pub record Middle (a b : List (List ℕ)) (i rest : List ℕ) : Type 0 where
  pub mid : List ℕ
  pub front : AreRead a i mid
  pub back : AreRead b mid rest

pub parted : (a b : List (List ℕ)) (i rest : List ℕ) → AreRead (a ++ b) i rest → Middle a b i rest
parted [] b i rest h = record { mid = i; front = refl; back = h }
parted (t ∷ a) b i rest h = let m = parted a b (next i) rest h.1.1 in record { mid = m.mid; front = (h.0, (h.1.0, m.front)); back = m.back }

space_short : (i : List ℕ) → length (after_space i) ≤ length i
space_short [] = omega arith
space_short (b ∷ i) = by (eqb b 32) (space_short i)
  where
    by : (t : Bool) → length (after_space i) ≤ length i → length (cond t (after_space i) (b ∷ i)) ≤ suc (length i)
    by true h = omega arith
    by false h = omega arith

pub taken_long : (n : ℕ) (s : List ℕ) → 0 < length (take n s) → (0 < n) × (0 < length s)
taken_long zero s h = absurd (omega arith)
taken_long (suc n) [] h = absurd (omega arith)
taken_long (suc n) (b ∷ s) h = (omega arith, omega arith)

-- a token takes a byte
pub shorter : (i token : List ℕ) → spelling i ≡ token → 0 < length token → length (next i) < length i
unfolding spelling next
shorter i token e some =
    let some_too : 0 < length (take (token_len (after_space i)) (after_space i)) = rw e some in
    let t = taken_long (token_len (after_space i)) (after_space i) some_too in
    let less = space_short i in
    let left = length-drop (token_len (after_space i)) (after_space i) in
    omega (arith, t.0, t.1, less, left)

pub no_longer : (tokens : List (List ℕ)) (i rest : List ℕ) → AreRead tokens i rest → length rest ≤ length i
no_longer [] i rest h = rw h (omega arith)
no_longer (t ∷ tokens) i rest h = let a = shorter i t h.0 h.1.0 in let b = no_longer tokens (next i) rest h.1.1 in omega arith
