-- The keys of a queue, by node (a priority queue with decrease-key: Cormen, Leiserson, Rivest and Stein, "Introduction to Algorithms", section 6.5).
use Rattle.std.specs.Prelude.{ℕ, Option, None, List, slice_index_or}

-- the key of a node; none for a node that is not in the queue
abbrev pub key_at : List (Option ℕ) → ℕ → Option ℕ
key_at keys node = slice_index_or keys node None
