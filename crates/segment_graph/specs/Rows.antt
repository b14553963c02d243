-- The rows of edges, and the links in them. Private: what is promised stands in `Halves.antt`.
use Rattle.std.specs.Prelude.{◌≡◌, ℕ, ◌+◌, ◌*◌, ◌/◌, ◌%◌, ◌<◌, ◌≤◌, ◌==◌, Bool, if◌then◌else◌, List, length, slice_index, slice_index_or}
use Rattle.base_graph.specs.declared.graph.EdgeEnds.{EdgeEnds}
use Rattle.segment_graph.specs.declared.row.EdgeRow.{EdgeRow}
use Rattle.segment_graph.specs.Halves.{numbered, link_below}

-- the row of an edge: eight words, of which the last is free
abbrev pub row_of : List ℕ → ℕ → EdgeRow
row_of words edge = record {
  base = record { 0 = slice_index words (8 * edge) };
  adjacent = record { 0 = slice_index words (8 * edge + 1) };
  mm = slice_index words (8 * edge + 2);
  next_at_base = slice_index words (8 * edge + 3);
  next_at_adjacent = slice_index words (8 * edge + 4);
  first_point = slice_index words (8 * edge + 5);
  end_point = slice_index words (8 * edge + 6);
}

abbrev pub rows_of : List ℕ → ℕ → List EdgeRow
rows_of words count = numbered (row_of words) count

-- what stands where no row does
abbrev pub no_row : EdgeRow
no_row = record {
  base = record { 0 = 0 };
  adjacent = record { 0 = 0 };
  mm = 0;
  next_at_base = 0;
  next_at_adjacent = 0;
  first_point = 0;
  end_point = 0;
}

-- a row by number
abbrev pub row_at : List EdgeRow → ℕ → EdgeRow
row_at rows edge = slice_index_or rows edge no_row

-- the ends of an edge, and its length
abbrev pub ends_of : EdgeRow → EdgeEnds
ends_of row = record { base = row.base; adjacent = row.adjacent; mm = row.mm }

-- the tower that a half-edge leaves, and the link behind it, by its side
abbrev pub tower_on : Bool → EdgeRow → ℕ
tower_on reverse row = if reverse then row.adjacent.0 else row.base.0

abbrev pub next_on : Bool → EdgeRow → ℕ
next_on reverse row = if reverse then row.next_at_adjacent else row.next_at_base

-- and by its number
abbrev pub tower_by : List EdgeRow → ℕ → ℕ
tower_by rows h = tower_on (h % 2 == 1) (row_at rows (h / 2))

abbrev pub next_of : List EdgeRow → ℕ → ℕ
next_of rows h = next_on (h % 2 == 1) (row_at rows (h / 2))

-- a tower's head leads to the last half-edge that leaves it, and each link to the one before
pub record AreLinked (heads : List ℕ) (rows : List EdgeRow) : Type 0 where
  pub few : length rows ≤ 4000000
  pub towers : (h : ℕ) → h < 2 * length rows → tower_by rows h < length heads
  pub first : (tower : ℕ) → tower < length heads
      → slice_index heads tower ≡ link_below (tower_by rows) tower (2 * length rows)
  pub next : (h : ℕ) → h < 2 * length rows
      → next_of rows h ≡ link_below (tower_by rows) (tower_by rows h) h

-- the row of a new edge: its link at each end is that tower's head, but at the adjacent end of a loop
-- it leads to the half-edge that leaves the base
abbrev pub linked_row : List ℕ → ℕ → EdgeEnds → ℕ → ℕ → EdgeRow
linked_row heads count ends first_point end_point = record {
  base = ends.base;
  adjacent = ends.adjacent;
  mm = ends.mm;
  next_at_base = slice_index heads ends.base.0;
  next_at_adjacent =
      if ends.adjacent.0 == ends.base.0 then 2 * count + 1 else slice_index heads ends.adjacent.0;
  first_point = first_point;
  end_point = end_point;
}
