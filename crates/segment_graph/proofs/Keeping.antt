-- Edges in tables: one that is read, and one that is put behind the others.
use Rattle.std.proofs.Common.{◌≡◌, ℕ, ◌+◌, ◌-◌, ◌*◌, ◌/◌, ◌%◌, ◌<◌, ◌≤◌, cond, eqb, List, [], ◌∷◌, ◌++◌, length, take, drop, refl, sym, ap, ◌∙◌, arith, length-append, length-drop}
use Rattle.std.specs.Prelude.{All, slice_range}
use Rattle.std.proofs.lemmas.List.{get_or_append_left, get_or_push, length_push, take-append-le, drop-append-le, drop_at, take_all}
use Rattle.std.proofs.lemmas.List.Elements.{All-push, All-weaker, All-get_or}
use Rattle.gh_base.specs.declared.map.Point.{Point}
use Rattle.encoded_values.specs.Values.{TwoValues}
use Rattle.base_graph.specs.declared.graph.EdgeEnds.{EdgeEnds}
use Rattle.base_graph.specs.Graphs.{Edge, Graph, edge_at, no_edge, around_of}
use Rattle.segment_graph.specs.declared.row.EdgeRow.{EdgeRow}
use Rattle.segment_graph.specs.Halves.{numbered, leaving, halves_below, link_below, list_from, tower_left, graph_of}
use Rattle.segment_graph.specs.Roads.{road_at}
use Rattle.segment_graph.specs.Rows.{row_at, no_row, tower_by, linked_row}
use Rattle.segment_graph.specs.Kept.{edge_of, edges_of, IsLine, AreKept}
use Rattle.segment_graph.proofs.Listing.{length-numbered, get_or-numbered, numbered_push, list_from-link_below, same_halves}

-- points that come behind leave a line as it was
same_line : (points more : List Point) (first end : ℕ) → first ≤ end → end ≤ length points → slice_range (points ++ more) first end ≡ slice_range points first end
same_line points more first end order inside =
    let enough : end - first ≤ length (drop first points) = omega (arith, length-drop first points) in
    ap (take (end - first)) (drop-append-le first points more (omega arith)) ∙ take-append-le (end - first) (drop first points) more enough

same_edge : (points more : List Point) (row : EdgeRow) (road : TwoValues) → IsLine points row → edge_of (points ++ more) row road ≡ edge_of points row road
same_edge points more row road line = λ i. record {
  base = row.base;
  adjacent = row.adjacent;
  mm = row.mm;
  between = same_line points more row.first_point row.end_point line.order line.inside i;
  values = road;
}

-- the points behind the others are those that were put there
new_line : (points between : List Point) (first end : ℕ) → first ≡ length points → end ≡ length (points ++ between) → slice_range (points ++ between) first end ≡ between
new_line points between first end at to =
    ap (take (end - first)) (drop_at points between first (sym at))
    ∙ take_all (end - first) between (omega (arith, length-append points between))

-- all edges, with one more
edges_pushed : (rows : List EdgeRow) (row : EdgeRow) (roads : List TwoValues) (road : TwoValues) (points more : List Point)
    → length roads ≡ length rows → All (IsLine points) rows
    → edges_of (rows ++ row ∷ []) (roads ++ road ∷ []) (points ++ more) ≡ edges_of rows roads points ++ edge_of (points ++ more) row road ∷ []
edges_pushed rows row roads road points more same lines =
    let was : ℕ → Edge = λ e. edge_of points (row_at rows e) (road_at roads e) in
    let is : ℕ → Edge = λ e. edge_of (points ++ more) (row_at (rows ++ row ∷ []) e) (road_at (roads ++ road ∷ []) e) in
    ap (λ (n : ℕ). numbered is n) (length_push rows row)
    ∙ numbered_push was is (length rows) (edges_of rows roads points) (edge_of (points ++ more) row road) refl
    (λ k b.
    ap (λ (r : EdgeRow). edge_of (points ++ more) r (road_at (roads ++ road ∷ []) k)) (get_or_append_left rows (row ∷ []) no_row k b)
    ∙ (ap (λ (v : TwoValues). edge_of (points ++ more) (row_at rows k) v) (get_or_append_left roads (road ∷ []) _ k (omega arith))
    ∙ same_edge points more (row_at rows k) (road_at roads k) (All-get_or (IsLine points) rows k no_row b lines)))
    (ap (λ (r : EdgeRow). edge_of (points ++ more) r (road_at (roads ++ road ∷ []) (length rows))) (get_or_push rows row no_row (length rows) refl)
    ∙ ap (λ (v : TwoValues). edge_of (points ++ more) row v) (get_or_push roads road _ (length rows) same))

abbrev new_edge : EdgeEnds → List Point → TwoValues → Edge
new_edge ends between road = record { base = ends.base; adjacent = ends.adjacent; mm = ends.mm; between = between; values = road }

-- what an added edge makes of the tables, and of the graph
pub record IsAdded (heads : List ℕ) (rows : List EdgeRow) (roads : List TwoValues) (points : List Point) (ends : EdgeEnds) (between : List Point) (road : TwoValues)
    (heads' : List ℕ) (rows' : List EdgeRow) (roads' : List TwoValues) (points' : List Point) : Type 0 where
  pub towers : length heads' ≡ length heads
  pub row : rows' ≡ rows ++ linked_row heads (length rows) ends (length points) (length (points ++ between)) ∷ []
  pub road_behind : roads' ≡ roads ++ road ∷ []
  pub line : points' ≡ points ++ between

pub added_at : (heads : List ℕ) (rows : List EdgeRow) (roads : List TwoValues) (points : List Point) (ends : EdgeEnds) (between : List Point) (road : TwoValues)
    (heads' : List ℕ) (rows' : List EdgeRow) (roads' : List TwoValues) (points' : List Point) (first end : ℕ)
    → length heads' ≡ length heads → rows' ≡ rows ++ linked_row heads (length rows) ends first end ∷ [] → roads' ≡ roads ++ road ∷ [] → points' ≡ points ++ between
    → first ≡ length points → end ≡ length points'
    → IsAdded heads rows roads points ends between road heads' rows' roads' points'
added_at heads rows roads points ends between road heads' rows' roads' points' first end long row road_behind line from to = record {
  towers = long;
  row = row
      ∙ (ap (λ (n : ℕ). rows ++ linked_row heads (length rows) ends n end ∷ []) from
      ∙ ap (λ (n : ℕ). rows ++ linked_row heads (length rows) ends (length points) n ∷ []) (to ∙ ap length line));
  road_behind = road_behind;
  line = line;
}

pub graph_added : (now : Graph) (places : List Point) (heads : List ℕ) (rows : List EdgeRow) (roads : List TwoValues) (points : List Point) (ends : EdgeEnds) (between : List Point) (road : TwoValues)
    (heads' : List ℕ) (rows' : List EdgeRow) (roads' : List TwoValues) (points' : List Point)
    → graph_of places (edges_of rows roads points) ≡ now → AreKept places heads rows roads points
    → IsAdded heads rows roads points ends between road heads' rows' roads' points'
    → graph_of places (edges_of rows' roads' points') ≡ graph_of now.places (now.edges ++ new_edge ends between road ∷ [])
graph_added now places heads rows roads points ends between road heads' rows' roads' points' is kept added =
    let row = linked_row heads (length rows) ends (length points) (length (points ++ between)) in
    let same : edge_of (points ++ between) row road ≡ new_edge ends between road =
    λ i. record {
      base = ends.base;
      adjacent = ends.adjacent;
      mm = ends.mm;
      between = new_line points between (length points) (length (points ++ between)) refl refl i;
      values = road;
    } in
    rw (added.row, added.road_behind, added.line)
    (ap (graph_of places) (edges_pushed rows row roads road points between kept.values kept.lines)
    ∙ (ap (λ (g : Graph). graph_of g.places (g.edges ++ edge_of (points ++ between) row road ∷ [])) is
    ∙ ap (λ (e : Edge). graph_of now.places (now.edges ++ e ∷ [])) same))

pub kept_added : (places : List Point) (heads : List ℕ) (rows : List EdgeRow) (roads : List TwoValues) (points : List Point) (ends : EdgeEnds) (between : List Point) (road : TwoValues)
    (heads' : List ℕ) (rows' : List EdgeRow) (roads' : List TwoValues) (points' : List Point)
    → AreKept places heads rows roads points → IsAdded heads rows roads points ends between road heads' rows' roads' points'
    → AreKept places heads' rows' roads' points'
kept_added places heads rows roads points ends between road heads' rows' roads' points' kept added =
    let row = linked_row heads (length rows) ends (length points) (length (points ++ between)) in
    let long = length-append points between in
    let wider : (r : EdgeRow) → IsLine points r → IsLine (points ++ between) r = λ r l. let inside = l.inside in record { order = l.order; inside = omega arith } in
    let here : IsLine (points ++ between) row = record { order = omega arith; inside = omega arith } in
    rw (added.row, added.road_behind, added.line) (record {
      towers = added.towers ∙ kept.towers;
      values = length_push roads road ∙ (ap (λ (n : ℕ). n + 1) kept.values ∙ sym (length_push rows row));
      lines = All-push (IsLine (points ++ between)) rows row (All-weaker (IsLine points) (IsLine (points ++ between)) wider rows kept.lines) here;
    })

-- tables that stay keep all
pub kept_same : (places : List Point) (heads heads' : List ℕ) (rows rows' : List EdgeRow) (roads roads' : List TwoValues) (points points' : List Point)
    → AreKept places heads rows roads points → length heads' ≡ length heads → rows' ≡ rows → roads' ≡ roads → points' ≡ points
    → AreKept places heads' rows' roads' points'
kept_same places heads heads' rows rows' roads roads' points points' kept long same_rows same_roads same_points =
    rw (same_rows, same_roads, same_points) (record { towers = long ∙ kept.towers; values = kept.values; lines = kept.lines })

-- how many edges there are, and what stands at one
pub edge_count : (now : Graph) (places : List Point) (rows : List EdgeRow) (roads : List TwoValues) (points : List Point)
    → graph_of places (edges_of rows roads points) ≡ now → length now.edges ≡ length rows
edge_count now places rows roads points is =
    sym (ap (λ (g : Graph). length g.edges) is) ∙ length-numbered (λ e. edge_of points (row_at rows e) (road_at roads e)) (length rows)

pub edge_there : (now : Graph) (places : List Point) (rows : List EdgeRow) (roads : List TwoValues) (points : List Point) (edge : ℕ) (row : EdgeRow)
    → graph_of places (edges_of rows roads points) ≡ now → edge < length now.edges → row ≡ row_at rows edge → edge_of points row (road_at roads edge) ≡ edge_at now.edges edge
edge_there now places rows roads points edge row is l found =
    ap (λ (r : EdgeRow). edge_of points r (road_at roads edge)) found
    ∙ (sym (get_or-numbered (λ e. edge_of points (row_at rows e) (road_at roads e)) (length rows) edge no_edge (omega (arith, edge_count now places rows roads points is)))
    ∙ ap (λ (g : Graph). edge_at g.edges edge) is)

-- what a tower's link begins is what leaves it
pub around_there : (now : Graph) (places : List Point) (rows : List EdgeRow) (roads : List TwoValues) (points : List Point) (node link : ℕ)
    → graph_of places (edges_of rows roads points) ≡ now → node < length places → link ≡ link_below (tower_by rows) node (2 * length rows)
    → list_from (tower_by rows) link ≡ around_of now node
around_there now places rows roads points node link is l e =
    let edges = edges_of rows roads points in
    let count : length edges ≡ length rows = length-numbered (λ k. edge_of points (row_at rows k) (road_at roads k)) (length rows) in
    ap (list_from (tower_by rows)) e
    ∙ (list_from-link_below (tower_by rows) node (2 * length rows)
    ∙ (same_halves (tower_by rows) (tower_left edges) node (2 * length rows)
    (λ h b. sym (ap (λ (x : Edge). cond {A = ℕ} (eqb (h % 2) 1) x.adjacent.0 x.base.0)
    (get_or-numbered (λ k. edge_of points (row_at rows k) (road_at roads k)) (length rows) (h / 2) no_edge (omega arith))))
    ∙ (ap (λ (n : ℕ). halves_below (tower_left edges) node (2 * n)) (sym count)
    ∙ (sym (get_or-numbered (leaving edges) (length places) node [] l)
    ∙ ap (λ (g : Graph). around_of g node) is))))
