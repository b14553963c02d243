-- How many numbers below a limit pass a test.
use Rattle.std.proofs.Common.{◌≡◌, ℕ, ◌+◌, ◌<◌, ◌≤◌, Bool, true, false, cond, zero, suc, refl, ap, ◌∙◌, inl, inr, arith}
use Rattle.std.proofs.lemmas.Bool.{cases_eq}
use Rattle.walk_rules.specs.Starts.{count_below}

one : (b : Bool) → cond b 1 0 ≤ 1
one true = omega arith
one false = omega arith

pub count_below-le : (p : ℕ → Bool) (n : ℕ) → count_below p n ≤ n
count_below-le p zero = omega arith
count_below-le p (suc n) = omega (arith, one (p n), count_below-le p n)

-- tests that agree
pub count_below-same : (p q : ℕ → Bool) (n : ℕ) → ((i : ℕ) → i < n → p i ≡ q i) → count_below p n ≡ count_below q n
count_below-same p q zero h = refl
count_below-same p q (suc n) h =
    let here : cond {A = ℕ} (p n) 1 0 ≡ cond (q n) 1 0 = ap (λ b. cond b 1 0) (h n (omega arith)) in
    let rest = count_below-same p q n (λ i l. h i (omega arith)) in
    omega arith

-- one more passes
pub count_below-one_more : (p q : ℕ → Bool) (n u : ℕ) → u < n → p u ≡ false → q u ≡ true → ((i : ℕ) → (i ≡ u → ⊥) → p i ≡ q i) → count_below q n ≡ count_below p n + 1
count_below-one_more p q zero u l a b h = absurd (omega arith)
count_below-one_more p q (suc n) u l a b h = elim (cases_eq n u) [
  | inl e ↦
      let x : cond {A = ℕ} (p n) 1 0 ≡ 0 = ap (λ b. cond b 1 0) (ap p e ∙ a) in
      let y : cond {A = ℕ} (q n) 1 0 ≡ 1 = ap (λ b. cond b 1 0) (ap q e ∙ b) in
      let rest = count_below-same p q n (λ i k. h i (λ s. absurd (omega arith))) in
      omega arith
  | inr ne ↦
      let here : cond {A = ℕ} (p n) 1 0 ≡ cond (q n) 1 0 = ap (λ b. cond b 1 0) (h n ne) in
      let rest = count_below-one_more p q n u (omega arith) a b h in
      omega arith
]

pub count_below-none : (p : ℕ → Bool) (n : ℕ) → ((i : ℕ) → p i ≡ false) → count_below p n ≡ 0
count_below-none p zero h = refl
count_below-none p (suc n) h =
    let here : cond {A = ℕ} (p n) 1 0 ≡ 0 = ap (λ b. cond b 1 0) (h n) in
    let rest = count_below-none p n h in
    omega arith

-- what passes one test passes the other
pub count_below-more : (p q : ℕ → Bool) (n : ℕ) → ((i : ℕ) → p i ≡ true → q i ≡ true) → count_below p n ≤ count_below q n
count_below-more p q zero h = omega arith
count_below-more p q (suc n) h =
    let here : cond (p n) 1 0 ≤ cond (q n) 1 0 = implied (p n) (q n) (h n) in
    let rest = count_below-more p q n h in
    omega arith
  where
    implied : (a b : Bool) → (a ≡ true → b ≡ true) → cond a 1 0 ≤ cond b 1 0
    implied false b f = omega arith
    implied true true f = omega arith
    implied true false f = absurd (let e = f refl in cc)
