-- What is kept of the nodes that a search reached (of this crate alone).
use Rattle.std.specs.Prelude.{◌≡◌, ℕ, zero, suc, ◌+◌, ◌*◌, ◌^◌, ◌<◌, ◌≤◌, true, false, cond, Option, Some, None, List, map, length, slice_index, slice_index_or}
use Rattle.alt_search.specs.declared.reach.Reach.{Reach}
use Rattle.alt_search.specs.declared.reached.Kept.{Kept}

-- what is known by it
abbrev pub reach_of : Kept → Reach
reach_of kept = record {
  weight = kept.high * 2 ^ 64 + kept.low;
  depth = kept.depth;
  last = cond kept.is_start None (Some (record {
    tail = record { 0 = kept.tail };
    hop = record { to = record { 0 = kept.node }; by = record { edge = record { 0 = kept.edge }; reverse = kept.reverse }; weight = Some kept.over };
  }));
}

abbrev pub weight_if : Option Reach → Option ℕ
weight_if None = None
weight_if (Some reach) = Some reach.weight

abbrev pub kept_at : List Kept → ℕ → Kept
kept_at kept slot = slice_index_or kept slot (record { low = 0; over = 0; high = 0; depth = 0; tail = 0; edge = 0; node = 0; reverse = false; is_start = true })

-- what is known of a node with such a slot, which is counted from 1
abbrev pub reach_in : List Kept → ℕ → Option Reach
reach_in kept zero = None
reach_in kept (suc slot) = Some (reach_of (kept_at kept slot))

abbrev pub reaches_in : List Kept → List ℕ → List (Option Reach)
reaches_in kept slots = map (reach_in kept) slots

-- what is kept is at its node's slot, and at each node's slot is what is kept of it
pub record ArePaired (kept : List Kept) (slots : List ℕ) : Type 0 where
  pub forward : (slot : ℕ) → slot < length kept → ((kept_at kept slot).node < length slots) × (slice_index slots (kept_at kept slot).node ≡ slot + 1)
  pub backward : (node slot : ℕ) → slice_index slots node ≡ slot + 1 → (slot < length kept) × ((kept_at kept slot).node ≡ node)

pub record AreKept (kept : List Kept) (slots : List ℕ) (room : ℕ) : Type 0 where
  pub few : length slots < 2 ^ 32
  pub fits : length slots ≤ room
  pub paired : ArePaired kept slots
