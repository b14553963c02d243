-- A heap of items with four below each, whose nodes know their places (D. B. Johnson, "Priority queues with update and finding minimum spanning trees").
use Rattle.std.specs.Prelude.{◌≡◌, ◌≢◌, ℕ, zero, suc, ◌+◌, ◌*◌, ◌^◌, ◌<◌, ◌≤◌, Option, Some, None, List, map, length, slice_index, slice_index_or, vec_capacity}
use Rattle.search_queue.specs.declared.heap.Item.{Item}
use Rattle.search_queue.specs.declared.heap.Heap.{Heap}

abbrev pub item_at : List Item → ℕ → Item
item_at items at = slice_index_or items at (record { key = 0; node = 0 })

-- the key of the item at a place
abbrev pub rank : List Item → ℕ → ℕ
rank items at = (item_at items at).key

-- the node of the item at a place
abbrev pub node_at : List Item → ℕ → ℕ
node_at items at = (item_at items at).node

-- one more than the place of a node, or 0
abbrev pub place_of : List ℕ → ℕ → ℕ
place_of places node = slice_index places node

-- the key of a node with such a place
abbrev pub key_in : List Item → ℕ → Option ℕ
key_in items zero = None
key_in items (suc at) = Some (rank items at)

-- the keys of all nodes
abbrev pub keys_in : List Item → List ℕ → List (Option ℕ)
keys_in items places = map (key_in items) places

abbrev pub keys_of : Heap → List (Option ℕ)
keys_of heap = keys_in heap.items.items heap.places

-- each item is at its node's place, and at each node's place is its item
pub record ArePaired (items : List Item) (places : List ℕ) : Type 0 where
  pub forward : (at : ℕ) → at < length items → (node_at items at < length places) × (place_of places (node_at items at) ≡ at + 1)
  pub backward : (node at : ℕ) → place_of places node ≡ at + 1 → (at < length items) × (node_at items at ≡ node)

-- the same, but for a node whose item is out, and a place that is free
pub record IsHoled (items : List Item) (places : List ℕ) (hole node : ℕ) : Type 0 where
  pub few : length places < 2 ^ 32
  pub inside : hole < length items
  pub fits : length items ≤ length places
  pub known : node < length places
  pub forward : (at : ℕ) → at < length items → at ≢ hole → (node_at items at < length places) × (node_at items at ≢ node) × (place_of places (node_at items at) ≡ at + 1)
  pub backward : (other at : ℕ) → other ≢ node → place_of places other ≡ at + 1 → (at < length items) × (at ≢ hole) × (node_at items at ≡ other)

-- a place is right below another
pub record IsBelow (parent child : ℕ) : Type 0 where
  pub first : 4 * parent + 1 ≤ child
  pub last : child ≤ 4 * parent + 4

-- no rank is below that of the place above
abbrev pub AreOrdered : ℕ → (ℕ → ℕ) → Type 0
AreOrdered count rank = (parent child : ℕ) → IsBelow parent child → child < count → rank parent ≤ rank child

-- in order but for a free place, into which a key fits that may be too small there
pub record MayRise (count : ℕ) (rank : ℕ → ℕ) (hole key : ℕ) : Type 0 where
  pub others : (parent child : ℕ) → IsBelow parent child → child < count → parent ≢ hole → child ≢ hole → rank parent ≤ rank child
  pub across : (parent child : ℕ) → IsBelow parent hole → IsBelow hole child → child < count → rank parent ≤ rank child
  pub below : (child : ℕ) → IsBelow hole child → child < count → key ≤ rank child

-- in order but for a free place, into which a key fits that may be too great there
pub record MaySink (count : ℕ) (rank : ℕ → ℕ) (hole key : ℕ) : Type 0 where
  pub others : (parent child : ℕ) → IsBelow parent child → child < count → parent ≢ hole → child ≢ hole → rank parent ≤ rank child
  pub across : (parent child : ℕ) → IsBelow parent hole → IsBelow hole child → child < count → rank parent ≤ rank child
  pub above : (parent : ℕ) → IsBelow parent hole → rank parent ≤ key

-- the heap of a queue
pub record IsHeap (heap : Heap) : Type 0 where
  pub few : length heap.places < 2 ^ 32
  pub room : length heap.places ≤ vec_capacity heap.items
  pub paired : ArePaired heap.items.items heap.places
  pub ordered : AreOrdered (length heap.items.items) (rank heap.items.items)
