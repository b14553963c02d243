use Rattle.std.proofs.Common.{◌≡◌, ℕ, ◌+◌, ◌*◌, ◌<◌, length, get_or}
use Rattle.data_access.specs.Bytes.{u32_at}
use Rattle.segment_graph.proofs.word_list.put_words.Given as goal

abbrev pub invariant-loop-k : goal.invariant-loop-k
invariant-loop-k l = record {
  len : length l.bytes ≡ length l.initial.bytes;
  row : (j : ℕ) → j < l.k → u32_at l.bytes (4 * (l.from + j)) ≡ get_or l.row j 0;
  before : (j : ℕ) → j < l.from → u32_at l.bytes (4 * j) ≡ u32_at l.initial.bytes (4 * j);
}
