-- Steps of printing.
use Rattle.std.proofs.Common.{◌≡◌, ℕ, zero, suc, ◌+◌, ◌-◌, ◌/◌, ◌%◌, ◌^◌, ◌<◌, List, ◌∷◌, ◌++◌, append_assoc, refl, arith}
use Rattle.exact_json.specs.Printed.{fixed}

pub fixed_more : (p n : ℕ) → 0 < p → fixed p n ≡ (48 + n / 10 ^ (p - 1) % 10) ∷ fixed (p - 1) n
fixed_more zero n some = absurd (omega arith)
fixed_more (suc p) n some = let e : suc p - 1 ≡ p = omega arith in rw e refl

pub joins : (a b c : List ℕ) → (a ++ b) ++ c ≡ a ++ (b ++ c)
joins a b c = append_assoc a b c
