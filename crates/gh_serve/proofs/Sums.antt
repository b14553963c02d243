-- Labels of a command, in the numbers of the machine.
use Rattle.std.proofs.Common.{arith, ◌<◌, ◌*◌, ◌≤◌, ◌^◌, ℕ}

pub product_fits : (a b : ℕ) → a < 2 ^ 32 → b < 2 ^ 32 → a * b ≤ 18446744065119617025
product_fits a b small few = grind arith
