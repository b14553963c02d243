use Rattle.std.proofs.Common.{◌≡◌, ◌≤◌, Some, length, vec_capacity}
use Rattle.std.specs.Prelude.{slice_set}
use Rattle.search_queue.specs.Heaps.{rank, keys_of, IsHoled, MayRise}
use Rattle.search_queue.proofs.heap.Heap.rise.Given as goal

-- all is in order but this place
abbrev pub invariant-loop-at : goal.invariant-loop-at
invariant-loop-at l = record {
  holed : IsHoled l.self.items.items l.self.places l.at l.item.node;
  room : length l.self.places ≤ vec_capacity l.self.items;
  order : MayRise (length l.self.items.items) (rank l.self.items.items) l.at l.item.key;
  keys : slice_set (keys_of l.self) l.item.node (Some l.item.key) ≡ slice_set (keys_of l.initial.self) l.item.node (Some l.item.key);
}

abbrev pub decreases-loop-at : goal.decreases-loop-at
decreases-loop-at l = l.at
