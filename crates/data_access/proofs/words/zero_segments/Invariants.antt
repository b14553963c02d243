use Rattle.std.proofs.Common.{◌≡◌, ℕ, List, length}
use Rattle.std.specs.Prelude.{All}
use Rattle.data_access.proofs.words.zero_segments.Given as goal

abbrev pub invariant-loop : goal.invariant-loop
invariant-loop l = (length l.segments.items ≡ l.counter)
    × All (λ (words : List ℕ). length words ≡ 262144) l.segments.items
    × All (λ (words : List ℕ). All (λ (word : ℕ). word ≡ 0) words) l.segments.items
