-- The grid's pieces: one between each two neighbours of a row or a column, and no other; so each tower is one of the grid, and its edges are long.
use Rattle.std.proofs.Common.{◌≡◌, ◌∙◌, ℕ, zero, suc, ◌+◌, ◌-◌, ◌*◌, ◌<◌, ◌≤◌, ℤ, pos, Bool, true, false, cond, List, [], ◌∷◌, length, map, get_or, Some, Contains, inl, inr, sym, ap, subst, refl, arith}
use Rattle.std.specs.Prelude.{fold, nat_lt, slice_get}
use Rattle.std.specs.List.{AllByRecursion, flat_map, range_with_len}
use Rattle.std.proofs.lemmas.Bool.{cases_lt, le-ltb, lt-ltb, ltb-false, ltb-true}
use Rattle.std.proofs.lemmas.List.{get_or-map, length-map}
use Rattle.std.proofs.lemmas.Option.{slice_get-get_or}
use Rattle.base_graph.specs.Graphs.{Edge, edge_at, no_edge}
use Rattle.map_import.specs.Building.{laid_as}
use Rattle.geo_math.specs.Lengths.{line_length}
use Rattle.map_import.specs.Roads.{Piece, UsedWay, cut, edge_of, ends_of, first_of, is_numbered, is_tower, last_of, number, piece_of, pieces_in, pieces_of, pieces_of_way, place_in, points_along, with_tower}
use Rattle.map_import.proofs.Numbers.{at_number, number_below}
use Rattle.map_import.proofs.Sayings as says
use Rattle.weighting.proofs.Turned.{contains_map}
use Rattle.traffic_core.specs.Lands.{Land}
use Rattle.generated_run.specs.Generating.{AreRoadsOfSize}
use Rattle.generated_run.specs.Maps.{id_at, map_of, ref_at}
use Rattle.generated_run.proofs.GridWays.{node_is_tower, used_at, used_refs, ways_used}
use Rattle.summary_laws.proofs.LongEdges.{column_line, row_line}
use Rattle.summary_laws.proofs.OpenGrid.{ids_distinct, laid_out}
use Rattle.summary_laws.proofs.RoutesOfTwoRuns.{tower_once}
use Rattle.summary_laws.proofs.Towers.{contains_flat, contains_range, each_at, each_flat, each_fold, each_map, each_range, numbered_fold, pairs_from}

-- an id of the grid
pub record IsOnGrid (size : ℕ) (id : ℤ) : Type 0 where
  pub row : ℕ
  pub column : ℕ
  pub row_below : row < size
  pub column_below : column < size
  pub is : id ≡ id_at size row column

-- two of them, apart
record IsGridPair (size : ℕ) (one other : ℤ) : Type 0 where
  one_on : IsOnGrid size one
  other_on : IsOnGrid size other
  long : 0 < line_length (points_along (place_in (map_of size).nodes) (one ∷ other ∷ []))

record IsGridPiece (size : ℕ) (piece : Piece) : Type 0 where
  one : ℤ
  other : ℤ
  refs_are : piece.refs ≡ one ∷ other ∷ []
  pair : IsGridPair size one other

on_grid : (size row column : ℕ) → row < size → column < size → IsOnGrid size (id_at size row column)
on_grid size row column r c = record { row = row; column = column; row_below = r; column_below = c; is = refl }

pair_by : (size n k : ℕ) → size ≤ 300 → n < 2 * size → k + 1 < size → (b : Bool) → nat_lt n size ≡ b →
    IsGridPair size (cond b (id_at size n k) (id_at size k (n - size))) (cond b (id_at size n (k + 1)) (id_at size (k + 1) (n - size)))
pair_by size n k few below inside true is =
    let row = ltb-true n size is in
    record { one_on = on_grid size n k row (omega arith); other_on = on_grid size n (k + 1) row inside; long = row_line size n k few row inside }
pair_by size n k few below inside false is =
    let over = ltb-false n size is in
    record { one_on = on_grid size k (n - size) (omega arith) (omega arith); other_on = on_grid size (k + 1) (n - size) inside (omega arith); long = column_line size k (n - size) inside (omega arith) }

grid_pair : (size n k : ℕ) → size ≤ 300 → n < 2 * size → k + 1 < size → IsGridPair size (ref_at size n k) (ref_at size n (k + 1))
grid_pair size n k few below inside = pair_by size n k few below inside (nat_lt n size) refl

tower_by : (size n k : ℕ) → n < 2 * size → k < size → (b : Bool) → nat_lt n size ≡ b →
    is_tower (map (used_at size) (range_with_len 0 (2 * size))) (cond b (id_at size n k) (id_at size k (n - size))) ≡ true
tower_by size n k below inside true is = node_is_tower size n k (ltb-true n size is) inside
tower_by size n k below inside false is = let over = ltb-false n size is in node_is_tower size k (n - size) inside (omega arith)

abbrev used : ℕ → List UsedWay
used size = map (used_at size) (range_with_len 0 (2 * size))

abbrev neighbours : ℕ → ℕ → ℕ → List ℤ
neighbours size n k = ref_at size n k ∷ ref_at size n (k + 1) ∷ []

cut_row : (tower : ℤ → Bool) (f : ℕ → ℤ) (less : ℕ) → ((i : ℕ) → i < less + 1 → tower (f i) ≡ true) → cut tower (map f (range_with_len 0 (suc less))) ≡ map (λ i. f i ∷ f (i + 1) ∷ []) (range_with_len 0 less)
cut_row tower f less each = pairs_from tower f 0 less (λ i low below. each i (omega arith))

way_cut : (size n : ℕ) → 2 ≤ size → n < 2 * size → cut (is_tower (used size)) (used_at size n).refs ≡ map (neighbours size n) (range_with_len 0 (size - 1))
way_cut size n two below =
    let less : suc (size - 1) ≡ size = omega arith in
    ap (cut (is_tower (used size))) (used_refs size n)
    ∙ ap (λ s. cut (is_tower (used size)) (map (ref_at size n) (range_with_len 0 s))) (sym less)
    ∙ cut_row (is_tower (used size)) (ref_at size n) (size - 1) (λ i inside. tower_by size n i below (omega arith) (nat_lt n size) refl)

pieces_are : (size : ℕ) → 2 ≤ size → pieces_in (map_of size) ≡ pieces_of (is_tower (used size)) (used size)
unfolding map_of
pieces_are size two = ap (λ (ways : List UsedWay). pieces_of (is_tower ways) ways) (ways_used size (2 * size) two)

each_piece : (size : ℕ) → 2 ≤ size → size ≤ 300 → AllByRecursion (IsGridPiece size) (pieces_in (map_of size))
each_piece size two few =
    let tower = is_tower (used size) in
    subst (λ (l : List Piece). AllByRecursion (IsGridPiece size) l) (sym (pieces_are size two))
    (each_flat (IsGridPiece size) (pieces_of_way tower) (used size) (each_range (λ (way : UsedWay). AllByRecursion (IsGridPiece size) (pieces_of_way tower way)) (used_at size) 0 (2 * size) (λ n low below.
    each_map (IsGridPiece size) (piece_of (used_at size n)) (cut tower (used_at size n).refs)
    (subst (λ (l : List (List ℤ)). AllByRecursion (λ (refs : List ℤ). IsGridPiece size (piece_of (used_at size n) refs)) l) (sym (way_cut size n two (omega arith)))
    (each_range (λ (refs : List ℤ). IsGridPiece size (piece_of (used_at size n) refs)) (neighbours size n) 0 (size - 1) (λ k from inside.
    record { one = ref_at size n k; other = ref_at size n (k + 1); refs_are = refl; pair = grid_pair size n k few (omega arith) (omega arith) }))))))

-- a piece from one id to another
record HasPiece (size : ℕ) (one other : ℤ) : Type 0 where
  piece : Piece
  has : Contains (pieces_in (map_of size)) piece
  refs_are : piece.refs ≡ one ∷ other ∷ []

has_piece : (size n k : ℕ) → 2 ≤ size → n < 2 * size → k + 1 < size → HasPiece size (ref_at size n k) (ref_at size n (k + 1))
has_piece size n k two below inside =
    let tower = is_tower (used size) in
    let way = used_at size n in
    let piece = piece_of way (neighbours size n k) in
    let cuts : Contains (cut tower way.refs) (neighbours size n k) =
    subst (λ (l : List (List ℤ)). Contains l (neighbours size n k)) (sym (way_cut size n two below)) (contains_range (neighbours size n) (size - 1) k (omega arith)) in
    record {
      piece = piece;
      has = subst (λ (l : List Piece). Contains l piece) (sym (pieces_are size two))
          (contains_flat (pieces_of_way tower) (used size) way piece (contains_range (used_at size) (2 * size) n below) (contains_map (piece_of way) (cut tower way.refs) (neighbours size n k) cuts));
      refs_are = refl;
    }

row_piece : (size row column : ℕ) → 2 ≤ size → row < size → column + 1 < size → HasPiece size (id_at size row column) (id_at size row (column + 1))
row_piece size row column two r c =
    let is : nat_lt row size ≡ true = lt-ltb row size r in
    subst (λ b. HasPiece size (cond b (id_at size row column) (id_at size column (row - size))) (cond b (id_at size row (column + 1)) (id_at size (column + 1) (row - size)))) is
    (has_piece size row column two (omega arith) c)

column_piece : (size row column : ℕ) → 2 ≤ size → row + 1 < size → column < size → HasPiece size (id_at size row column) (id_at size (row + 1) column)
column_piece size row column two r c =
    let n = size + column in
    let is : nat_lt n size ≡ false = le-ltb n size (omega arith) in
    let same : n - size ≡ column = omega arith in
    subst (λ m. HasPiece size (id_at size row m) (id_at size (row + 1) m)) same
    (subst (λ b. HasPiece size (cond b (id_at size n row) (id_at size row (n - size))) (cond b (id_at size n (row + 1)) (id_at size (row + 1) (n - size)))) is (has_piece size n row two (omega arith) r))

-- what the roads of a size are
module _ (size : ℕ) (two : 2 ≤ size) (few : size ≤ 300) (land : Land) (are : AreRoadsOfSize size land) where
  edges_are : land.graph.edges ≡ map (edge_of (place_in (map_of size).nodes) land.ids) (pieces_in (map_of size))
  edges_are = says.edges (place_in (map_of size).nodes) (pieces_in (map_of size)) (laid_as land.ids land.graph) (laid_out size land are)

  ids_are : land.ids ≡ fold with_tower [] (flat_map ends_of (pieces_in (map_of size)))
  ids_are = says.ids (place_in (map_of size).nodes) (pieces_in (map_of size)) (laid_as land.ids land.graph) (laid_out size land are)

  edge_long : (piece : Piece) → IsGridPiece size piece → 0 < (edge_of (place_in (map_of size).nodes) land.ids piece).mm
  unfolding edge_of
  edge_long piece on = subst (λ (refs : List ℤ). 0 < line_length (points_along (place_in (map_of size).nodes) refs)) (sym on.refs_are) on.pair.long

  each_long : (list : List Piece) → AllByRecursion (IsGridPiece size) list → AllByRecursion (λ (p : Piece). 0 < (edge_of (place_in (map_of size).nodes) land.ids p).mm) list
  each_long [] each = tt
  each_long (p ∷ list) each = (edge_long p each.0, each_long list each.1)

  -- each edge is long
  pub long_edge : (edge : ℕ) → edge < length land.graph.edges → 0 < (edge_at land.graph.edges edge).mm
  long_edge edge there =
      each_at (λ (e : Edge). 0 < e.mm) land.graph.edges edge no_edge
      (subst (λ (l : List Edge). AllByRecursion (λ (e : Edge). 0 < e.mm) l) (sym edges_are)
      (each_map (λ (e : Edge). 0 < e.mm) (edge_of (place_in (map_of size).nodes) land.ids) (pieces_in (map_of size)) (each_long (pieces_in (map_of size)) (each_piece size two few)))) there

  ends_on : (p : Piece) → IsGridPiece size p → AllByRecursion (IsOnGrid size) (ends_of p)
  ends_on p on = subst (λ (refs : List ℤ). AllByRecursion (IsOnGrid size) (ends_of (record { way = p.way; refs = refs; values = p.values }))) (sym on.refs_are) (on.pair.one_on, (on.pair.other_on, tt))

  all_ends_on : (list : List Piece) → AllByRecursion (IsGridPiece size) list → AllByRecursion (λ (p : Piece). AllByRecursion (IsOnGrid size) (ends_of p)) list
  all_ends_on [] each = tt
  all_ends_on (p ∷ list) each = (ends_on p each.0, all_ends_on list each.1)

  ids_on : AllByRecursion (IsOnGrid size) land.ids
  ids_on = subst (λ (ids : List ℤ). AllByRecursion (IsOnGrid size) ids) (sym ids_are)
      (each_fold (IsOnGrid size) (flat_map ends_of (pieces_in (map_of size))) [] tt (each_flat (IsOnGrid size) ends_of (pieces_in (map_of size)) (all_ends_on (pieces_in (map_of size)) (each_piece size two few))))

  abbrev pub tower_at : ℕ → ℕ → ℕ
  tower_at row column = number land.ids (id_at size row column)

  -- each tower is one of the grid
  pub record IsTowerOf (tower : ℕ) : Type 0 where
    pub row : ℕ
    pub column : ℕ
    pub row_below : row < size
    pub column_below : column < size
    pub is : tower ≡ number land.ids (id_at size row column)

  -- an edge joins the towers of two ids
  pub record Joins (one other : ℤ) : Type 0 where
    pub edge : ℕ
    pub there : edge < length land.graph.edges
    pub base : (edge_at land.graph.edges edge).base.0 ≡ number land.ids one
    pub adjacent : (edge_at land.graph.edges edge).adjacent.0 ≡ number land.ids other
    pub one_known : is_numbered land.ids one ≡ true
    pub other_known : is_numbered land.ids other ≡ true

  base_of : (p : Piece) (one other : ℤ) → p.refs ≡ one ∷ other ∷ [] → (edge_of (place_in (map_of size).nodes) land.ids p).base.0 ≡ number land.ids one
  unfolding edge_of
  base_of p one other is = ap (λ (refs : List ℤ). number land.ids (first_of refs)) is

  adjacent_of : (p : Piece) (one other : ℤ) → p.refs ≡ one ∷ other ∷ [] → (edge_of (place_in (map_of size).nodes) land.ids p).adjacent.0 ≡ number land.ids other
  unfolding edge_of
  adjacent_of p one other is = ap (λ (refs : List ℤ). number land.ids (last_of refs)) is

  known_end : (id : ℤ) → Contains (flat_map ends_of (pieces_in (map_of size))) id → is_numbered land.ids id ≡ true
  known_end id has = subst (λ (ids : List ℤ). is_numbered ids id ≡ true) (sym ids_are) (numbered_fold (flat_map ends_of (pieces_in (map_of size))) [] id has)

  first_end : (p : Piece) (one other : ℤ) → p.refs ≡ one ∷ other ∷ [] → Contains (ends_of p) one
  first_end p one other is = (zero, omega arith, ap (λ (refs : List ℤ). first_of refs) is)

  last_end : (p : Piece) (one other : ℤ) → p.refs ≡ one ∷ other ∷ [] → Contains (ends_of p) other
  last_end p one other is = (suc zero, omega arith, ap (λ (refs : List ℤ). last_of refs) is)

  joins : (one other : ℤ) → HasPiece size one other → Joins one other
  joins one other has =
      let list = pieces_in (map_of size) in
      let make = edge_of (place_in (map_of size).nodes) land.ids in
      let p = has.piece in
      let k = has.has.0 in
      let long : length land.graph.edges ≡ length list = ap length edges_are ∙ length-map list make in
      let below = has.has.1 in
      let edge_is : edge_at land.graph.edges k ≡ make p =
      ap (λ (l : List Edge). get_or l k no_edge) edges_are ∙ get_or-map make list k p no_edge below ∙ ap make has.has.2 in
      record {
        edge = k;
        there = omega (arith, long, below);
        base = ap (λ (e : Edge). e.base.0) edge_is ∙ base_of p one other has.refs_are;
        adjacent = ap (λ (e : Edge). e.adjacent.0) edge_is ∙ adjacent_of p one other has.refs_are;
        one_known = known_end one (contains_flat ends_of list p one has.has (first_end p one other has.refs_are));
        other_known = known_end other (contains_flat ends_of list p other has.has (last_end p one other has.refs_are));
      }

  pub joins_row : (row column : ℕ) → row < size → column + 1 < size → Joins (id_at size row column) (id_at size row (column + 1))
  joins_row row column r c = joins (id_at size row column) (id_at size row (column + 1)) (row_piece size row column two r c)

  pub joins_column : (row column : ℕ) → row + 1 < size → column < size → Joins (id_at size row column) (id_at size (row + 1) column)
  joins_column row column r c = joins (id_at size row column) (id_at size (row + 1) column) (column_piece size row column two r c)

  pub known_by : (row column : ℕ) → row < size → column < size → is_numbered land.ids (id_at size row column) ≡ true
  known_by row column r c = elim (cases_lt (column + 1) size) [
    | inl right ↦ (joins_row row column r right).one_known
    | inr last ↦
        let before : (column - 1) + 1 ≡ column = omega arith in
        subst (λ n. is_numbered land.ids (id_at size row n) ≡ true) before (joins_row row (column - 1) r (omega arith)).other_known
  ]

  -- different ids have different numbers
  pub numbers_apart : (a b c d : ℕ) → a < size → b < size → c < size → d < size → (id_at size a b ≡ id_at size c d → ⊥) → tower_at a b ≡ tower_at c d → ⊥
  numbers_apart a b c d a_in b_in c_in d_in apart same =
      let first = at_number land.ids (id_at size a b) (pos 0) (known_by a b a_in b_in) in
      let second = at_number land.ids (id_at size c d) (pos 0) (known_by c d c_in d_in) in
      apart (sym first ∙ ap (λ n. get_or land.ids n (pos 0)) same ∙ second)

  pub tower_of : (tower : ℕ) → tower < length land.ids → IsTowerOf tower
  tower_of tower below =
      let id = get_or land.ids tower (pos 0) in
      let on = each_at (IsOnGrid size) land.ids tower (pos 0) ids_on below in
      let grid = id_at size on.row on.column in
      let known = known_by on.row on.column on.row_below on.column_below in
      let n = number land.ids grid in
      let mine : slice_get land.ids tower ≡ Some grid = slice_get-get_or land.ids tower (pos 0) below ∙ ap (λ (z : ℤ). Some z) on.is in
      let there : slice_get land.ids n ≡ Some grid = slice_get-get_or land.ids n (pos 0) (number_below land.ids grid known) ∙ ap (λ (z : ℤ). Some z) (at_number land.ids grid (pos 0) known) in
      record { row = on.row; column = on.column; row_below = on.row_below; column_below = on.column_below; is = tower_once land.ids tower n grid (ids_distinct size land are) mine there }
