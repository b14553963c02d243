use Rattle.std.proofs.Common.{◌≡◌, ◌≤◌, ◌-◌, Some, length, vec_capacity}
use Rattle.std.specs.Prelude.{slice_set}
use Rattle.search_queue.specs.Heaps.{rank, keys_of, IsHoled, MaySink}
use Rattle.search_queue.proofs.heap.Heap.sink.Given as goal

-- all is in order but this place
abbrev pub invariant-loop-child : goal.invariant-loop-child
invariant-loop-child l = record {
  holed : IsHoled l.self.items.items l.self.places l.at l.item.node;
  room : length l.self.places ≤ vec_capacity l.self.items;
  order : MaySink (length l.self.items.items) (rank l.self.items.items) l.at l.item.key;
  keys : slice_set (keys_of l.self) l.item.node (Some l.item.key) ≡ slice_set (keys_of l.initial.self) l.item.node (Some l.item.key);
}

abbrev pub decreases-loop-child : goal.decreases-loop-child
decreases-loop-child l = length l.self.items.items - l.at
