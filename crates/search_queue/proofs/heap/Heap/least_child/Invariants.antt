use Rattle.std.proofs.Common.{◌<◌, ◌≤◌, ℕ}
use Rattle.search_queue.specs.Heaps.{rank}
use Rattle.search_queue.proofs.heap.Heap.least_child.Given as goal

-- the least of those looked at
abbrev pub invariant-loop-child : goal.invariant-loop-child
invariant-loop-child l = record {
  first : l.first ≤ l.least;
  within : l.least < l.child;
  least : (other : ℕ) → l.first ≤ other → other < l.child → rank l.self.items.items l.least ≤ rank l.self.items.items other;
}
