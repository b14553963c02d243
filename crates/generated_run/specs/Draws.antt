-- Draws: numbers that follow from a size, as the example of ISO C makes them (ISO/IEC 9899, "The rand function"; here modulo 2^31, and a draw is what is
-- above the low 16 bits).
use Rattle.std.specs.Prelude.{ℕ, zero, suc, ◌+◌, ◌*◌, ◌/◌, ◌%◌}

abbrev pub next : ℕ → ℕ
next x = (1103515245 * x + 12345) % 2147483648

-- behind so many steps from a size
unfoldable pub state_after : ℕ → ℕ → ℕ
state_after size zero = size
state_after size (suc k) = next (state_after size k)

-- the draw number k of a size, counted from 0
abbrev pub draw : ℕ → ℕ → ℕ
draw size k = state_after size (k + 1) / 65536
