-- Words in bytes. Private: what is promised stands in `Halves.antt`.
use Rattle.std.specs.Prelude.{ℕ, ◌*◌, ◌≤◌, ◌^◌, List, length}
use Rattle.data_access.specs.Bytes.{u32_at}
use Rattle.segment_graph.specs.Halves.{numbered}

-- the words with which bytes begin
abbrev pub words_of : List ℕ → ℕ → List ℕ
words_of bytes len = numbered (λ index. u32_at bytes (4 * index)) len

-- so many are there, and they are few
pub record AreWords (bytes : List ℕ) (len : ℕ) : Type 0 where
  pub inside : 4 * len ≤ length bytes
  pub few : len ≤ 2 ^ 32
