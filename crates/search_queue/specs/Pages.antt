-- Numbers by node, in pages.
use Rattle.std.specs.Prelude.{◌≡◌, ◌≢◌, ℕ, ◌+◌, ◌*◌, ◌/◌, ◌%◌, ◌^◌, ◌<◌, ◌≤◌, List, map, length, slice_index, vec_capacity}
use Rattle.std.specs.List.{range_with_len}
use Rattle.search_queue.specs.declared.pages.Pages.{Pages}

-- the number of a node: it stands on the page of its block
abbrev pub number_in : Pages → ℕ → ℕ
number_in pages node = slice_index pages.words.items (1024 * slice_index pages.starts.items (node / 1024) + node % 1024)

-- each page but the first is that of one block, and the first is 0
pub record IsPaged (pages : Pages) : Type 0 where
  pub few : length pages.starts.items < 2 ^ 31
  pub long : length pages.words.items ≡ 1024 * (pages.count + 1)
  pub within : (block : ℕ) → block < length pages.starts.items → slice_index pages.starts.items block ≤ pages.count
  pub apart : (one other : ℕ) → one < length pages.starts.items → other < length pages.starts.items → slice_index pages.starts.items one ≡ slice_index pages.starts.items other → slice_index pages.starts.items one ≢ 0 → one ≡ other
  pub owned : (page : ℕ) → page < pages.count → (block : ℕ) × (block < length pages.starts.items) × (slice_index pages.starts.items block ≡ page + 1)
  pub blank : (i : ℕ) → i < 1024 → slice_index pages.words.items i ≡ 0
  pub room : 1024 * (length pages.starts.items + 1) ≤ vec_capacity pages.words

-- the numbers of all nodes
abbrev pub numbers_in : Pages → ℕ → List ℕ
numbers_in pages nodes = map (number_in pages) (range_with_len 0 nodes)

-- pages with a block for each node
pub record IsTable (pages : Pages) (nodes : ℕ) : Type 0 where
  pub paged : IsPaged pages
  pub blocks : nodes < 1024 * length pages.starts.items
