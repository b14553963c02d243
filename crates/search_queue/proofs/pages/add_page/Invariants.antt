use Rattle.std.proofs.Common.{◌≡◌, ◌+◌, ◌++◌, replicate, vec_len, vec_capacity}
use Rattle.search_queue.proofs.pages.add_page.Given as goal

-- so many words more
abbrev pub invariant-loop : goal.invariant-loop
invariant-loop l = record {
  items : l.words.items ≡ l.initial.words.items ++ replicate l.counter 0;
  long : vec_len l.words ≡ vec_len l.initial.words + l.counter;
  capacity : vec_capacity l.words ≡ vec_capacity l.initial.words;
}
