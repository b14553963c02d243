-- The roads of the grid: no node is missing, and each piece between neighbours is an edge.
use Rattle.std.proofs.Common.{◌≡◌, ◌∙◌, ℕ, zero, suc, ◌+◌, ◌-◌, ◌*◌, ◌/◌, ◌%◌, ◌<◌, ◌≤◌, ℤ, Bool, true, false, cond, List, [], ◌∷◌, ◌++◌, length, map, Option, Some, None, Ok, ap, sym, subst, refl, arith, length-append}
use Rattle.std.specs.Prelude.{nat_lt, unwrap_or}
use Rattle.std.specs.List.{range_with_len}
use Rattle.std.proofs.lemmas.Bool.{le-ltb, lt-leb, ltb-false, ltb-true}
use Rattle.std.proofs.lemmas.List.FromFn.{length-map-range_with_len}
use Rattle.std.proofs.lemmas.Nat.{mul-le, div_below, mod_below}
use Rattle.gh_base.specs.declared.map.Point.{Point}
use Rattle.map_import.specs.Refusals.{Laid, first_missing, lay, lay_all, missing_of, nothing, roads}
use Rattle.geo_math.specs.Lengths.{line_length}
use Rattle.map_import.specs.Roads.{Piece, UsedWay, cut, cut_from, first_of, is_tower, last_of, edge_of, origin, piece_of, pieces_of, pieces_of_way, place_at, place_in, points_along, with_tower, with_towers, is_numbered}
use Rattle.generated_run.specs.Maps.{id_at, map_of, node_at, ref_at}
use Rattle.generated_run.proofs.GridNodes.{node_there, nodes_once}
use Rattle.generated_run.proofs.GridWays.{node_is_tower, used_at, used_refs, ways_used}
use Rattle.generated_run.proofs.ShortLines.{IsNear, near_are_short}

-- a fact of each, by recursion
abbrev Each : {X : Type 0} → (X → Type 0) → List X → Type 0
Each P [] = Unit {0}
Each P (x ∷ xs) = P x × Each P xs

each_range : {X : Type 0} (P : X → Type 0) (f : ℕ → X) (a k : ℕ) → ((i : ℕ) → a ≤ i → i < a + k → P (f i)) → Each P (map f (range_with_len a k))
each_range P f a zero each = tt
each_range P f a (suc k) each = (each a (omega arith) (omega arith), each_range P f (a + 1) k (λ i low below. each i (omega arith) (omega arith)))

-- an id at which a node stands, near the origin
record IsPlaced (place : ℤ → Option Point) (tower : ℤ → Bool) (id : ℤ) : Type 0 where
  point : Point
  there : place id ≡ Some point
  near : IsNear point
  tower_is : tower id ≡ true

found : (place : ℤ → Option Point) (tower : ℤ → Bool) (refs : List ℤ) → Each (IsPlaced place tower) refs → missing_of place refs ≡ None
found place tower [] each = refl
found place tower (id ∷ refs) each = rw each.0.there (found place tower refs each.1)

none_missing : (place : ℤ → Option Point) (tower : ℤ → Bool) (ways : List UsedWay) → Each (λ (way : UsedWay). Each (IsPlaced place tower) way.refs) ways → first_missing place ways ≡ None
none_missing place tower [] each = refl
none_missing place tower (way ∷ ways) each = rw (found place tower way.refs each.0) (none_missing place tower ways each.1)

-- neighbours
abbrev pairs : ℤ → List ℤ → List (List ℤ)
pairs a [] = []
pairs a (b ∷ ids) = (a ∷ b ∷ []) ∷ pairs b ids

cut_each : (place : ℤ → Option Point) (tower : ℤ → Bool) (a : ℤ) (ids : List ℤ) → Each (IsPlaced place tower) ids → cut_from tower (a ∷ []) ids ≡ pairs a ids
cut_each place tower a [] each = refl
cut_each place tower a (b ∷ ids) each = rw each.0.tower_is (ap (λ (l : List (List ℤ)). (a ∷ b ∷ []) ∷ l) (cut_each place tower b ids each.1))

-- a piece that is short enough to stand
IsShort : (ℤ → Option Point) → Piece → Type 0
IsShort place piece = line_length (points_along place piece.refs) ≤ 4294967295

short_pair : (place : ℤ → Option Point) (tower : ℤ → Bool) (way : UsedWay) (a b : ℤ) → IsPlaced place tower a → IsPlaced place tower b → IsShort place (piece_of way (a ∷ b ∷ []))
unfolding IsShort
short_pair place tower way a b at_a at_b =
    let first : place_at place a ≡ at_a.point = ap (λ (p : Option Point). unwrap_or p origin) at_a.there in
    let second : place_at place b ≡ at_b.point = ap (λ (p : Option Point). unwrap_or p origin) at_b.there in
    subst (λ (p : Point). line_length (p ∷ place_at place b ∷ []) ≤ 4294967295) (sym first)
    (subst (λ (q : Point). line_length (at_a.point ∷ q ∷ []) ≤ 4294967295) (sym second) (near_are_short at_a.point at_b.point at_a.near at_b.near))

short_pairs : (place : ℤ → Option Point) (tower : ℤ → Bool) (way : UsedWay) (a : ℤ) (ids : List ℤ) → IsPlaced place tower a → Each (IsPlaced place tower) ids → Each (IsShort place) (map (piece_of way) (pairs a ids))
short_pairs place tower way a [] at_a each = tt
short_pairs place tower way a (b ∷ ids) at_a each = (short_pair place tower way a b at_a each.0, short_pairs place tower way b ids each.0 each.1)

count_pairs : (way : UsedWay) (a : ℤ) (ids : List ℤ) → length (map (piece_of way) (pairs a ids)) ≡ length ids
count_pairs way a [] = refl
count_pairs way a (b ∷ ids) = omega (arith, count_pairs way b ids)

-- the pieces of a way whose nodes are all towers: they are short, and one less than its nodes
record AreShort (place : ℤ → Option Point) (count : ℕ) (pieces : List Piece) : Type 0 where
  short : Each (IsShort place) pieces
  many : length pieces + 1 ≡ count

pieces_short : (place : ℤ → Option Point) (tower : ℤ → Bool) (way : UsedWay) (refs : List ℤ) → 1 ≤ length refs → Each (IsPlaced place tower) refs → AreShort place (length refs) (map (piece_of way) (cut tower refs))
pieces_short place tower way [] some each = absurd (omega arith)
pieces_short place tower way (a ∷ ids) some each =
    subst (λ (l : List (List ℤ)). AreShort place (length (a ∷ ids)) (map (piece_of way) l)) (sym (cut_each place tower a ids each.1))
    (record { short = short_pairs place tower way a ids each.0 each.1; many = omega (arith, count_pairs way a ids) })

each_append : {X : Type 0} (P : X → Type 0) (xs ys : List X) → Each P xs → Each P ys → Each P (xs ++ ys)
each_append P [] ys first second = second
each_append P (x ∷ xs) ys first second = (first.0, each_append P xs ys first.1 second)

-- of all ways
record AreAllShort (place : ℤ → Option Point) (count : ℕ) (pieces : List Piece) : Type 0 where
  short : Each (IsShort place) pieces
  many : length pieces ≡ count

IsGridWay : (ℤ → Option Point) → (ℤ → Bool) → ℕ → UsedWay → Type 0
IsGridWay place tower size way = (length way.refs ≡ size) × Each (IsPlaced place tower) way.refs

all_short : (place : ℤ → Option Point) (tower : ℤ → Bool) (less : ℕ) (ways : List UsedWay) → Each (IsGridWay place tower (less + 1)) ways → AreAllShort place (length ways * less) (pieces_of tower ways)
unfolding IsGridWay
all_short place tower less [] each = record { short = tt; many = omega arith }
all_short place tower less (way ∷ ways) each =
    let first = pieces_short place tower way way.refs (omega (arith, each.0.0)) each.0.1 in
    let rest = all_short place tower less ways each.1 in
    record {
      short = each_append (IsShort place) (pieces_of_way tower way) (pieces_of tower ways) first.short rest.short;
      many = omega (arith, length-append (pieces_of_way tower way) (pieces_of tower ways), first.many, rest.many, each.0.0);
    }

tower_more_by : (b : Bool) (ids : List ℤ) (id : ℤ) → length (cond b ids (ids ++ id ∷ [])) ≤ length ids + 1
tower_more_by true ids id = omega arith
tower_more_by false ids id = omega (arith, length-append ids (id ∷ []))

tower_more : (ids : List ℤ) (id : ℤ) → length (with_tower ids id) ≤ length ids + 1
tower_more ids id = tower_more_by (is_numbered ids id) ids id

-- what laying a piece gives
record IsLaid (place : ℤ → Option Point) (from : Laid) (piece : Piece) : Type 0 where
  to : Laid
  is : lay place from piece ≡ Ok to
  edges : length to.edges ≡ length from.edges + 1
  ids : length to.ids ≤ length from.ids + 2

laid : (place : ℤ → Option Point) (from : Laid) (piece : Piece) → IsShort place piece → length from.edges < 4000000 → length from.ids + 2 ≤ 2000000 → IsLaid place from piece
unfolding lay IsShort
laid place from piece short few room =
    let first = tower_more from.ids (first_of piece.refs) in
    let second = tower_more (with_tower from.ids (first_of piece.refs)) (last_of piece.refs) in
    let fits : length (with_towers from.ids piece.refs) ≤ 2000000 = omega arith in
    record {
      to = record { ids = with_towers from.ids piece.refs; edges = from.edges ++ edge_of place (with_towers from.ids piece.refs) piece ∷ [] };
      is = rw (le-ltb 4294967295 (line_length (points_along place piece.refs)) short, lt-leb 4000000 (length from.edges) few, le-ltb 2000000 (length (with_towers from.ids piece.refs)) fits) refl;
      edges = length-append from.edges (edge_of place (with_towers from.ids piece.refs) piece ∷ []);
      ids = omega arith;
    }

record AreLaid (place : ℤ → Option Point) (from : Laid) (pieces : List Piece) : Type 0 where
  to : Laid
  is : lay_all place from pieces ≡ Ok to
  edges : length to.edges ≡ length from.edges + length pieces

all_laid : (place : ℤ → Option Point) (from : Laid) (pieces : List Piece) → Each (IsShort place) pieces → length from.edges + length pieces ≤ 4000000 → length from.ids + 2 * length pieces ≤ 2000000 → AreLaid place from pieces
all_laid place from [] short few room = record { to = from; is = refl; edges = omega arith }
all_laid place from (piece ∷ pieces) short few room =
    let one = laid place from piece short.0 (omega arith) (omega arith) in
    let rest = all_laid place one.to pieces short.1 (omega (arith, one.edges)) (omega (arith, one.ids)) in
    record {
      to = rest.to;
      is = rw one.is rest.is;
      edges = omega (arith, one.edges, rest.edges);
    }

place_of : ℕ → ℤ → Option Point
place_of size = place_in (map (node_at size) (range_with_len 0 (size * size)))

tower_of : ℕ → ℤ → Bool
tower_of size = is_tower (map (used_at size) (range_with_len 0 (2 * size)))

node_near : (size n : ℕ) → 0 < size → size ≤ 300 → n < size * size → IsNear (node_at size n).place
node_near size n some few below =
    let row : n / size < 300 = div_below n size 300 some (let top = mul-le size size 300 size few (omega arith) in omega arith) in
    let column = mod_below n size some in
    record { north = n / size * 100000; east = n % size * 100000; is = refl; north_small = omega arith; east_small = omega arith }

grid_below : (size row column : ℕ) → row < size → column < size → row * size + column < size * size
grid_below size row column r c = let top = mul-le (row + 1) size size size (omega arith) (omega arith) in omega arith

node_placed : (size row column : ℕ) → size ≤ 300 → row < size → column < size → IsPlaced (place_of size) (tower_of size) (id_at size row column)
unfolding place_of tower_of
node_placed size row column few r c =
    let below = grid_below size row column r c in
    record {
      point = (node_at size (row * size + column)).place;
      there = node_there size 0 (size * size) (row * size + column) (omega arith) (omega arith);
      near = node_near size (row * size + column) (omega arith) few below;
      tower_is = node_is_tower size row column r c;
    }

ref_placed_by : (size n k : ℕ) → size ≤ 300 → n < 2 * size → k < size → (b : Bool) → nat_lt n size ≡ b → IsPlaced (place_of size) (tower_of size) (cond b (id_at size n k) (id_at size k (n - size)))
ref_placed_by size n k few below inside true is = node_placed size n k few (ltb-true n size is) inside
ref_placed_by size n k few below inside false is = let over = ltb-false n size is in node_placed size k (n - size) few inside (omega arith)

way_on_grid : (size n : ℕ) → size ≤ 300 → n < 2 * size → IsGridWay (place_of size) (tower_of size) size (used_at size n)
unfolding IsGridWay
way_on_grid size n few below =
    subst (λ (refs : List ℤ). (length refs ≡ size) × Each (IsPlaced (place_of size) (tower_of size)) refs) (sym (used_refs size n))
    (length-map-range_with_len (ref_at size n) 0 size, each_range (IsPlaced (place_of size) (tower_of size)) (ref_at size n) 0 size (λ k low inside. ref_placed_by size n k few below (omega arith) (nat_lt n size) refl))

placed_of : (place : ℤ → Option Point) (tower : ℤ → Bool) (size : ℕ) (ways : List UsedWay) → Each (IsGridWay place tower size) ways → Each (λ (way : UsedWay). Each (IsPlaced place tower) way.refs) ways
unfolding IsGridWay
placed_of place tower size [] each = tt
placed_of place tower size (way ∷ ways) each = (each.0.1, placed_of place tower size ways each.1)

-- the roads of the map of a size
pub record AreGridRoads (size : ℕ) : Type 0 where
  pub to : Laid
  pub is : roads (map_of size) ≡ Ok to
  pub edges : length to.edges ≡ 2 * size * (size - 1)

pub grid_roads : (size : ℕ) → 2 ≤ size → size ≤ 300 → AreGridRoads size
unfolding roads map_of place_of tower_of
grid_roads size two few =
    let used = ways_used size (2 * size) two in
    let ways : List UsedWay = map (used_at size) (range_with_len 0 (2 * size)) in
    let grid = each_range (IsGridWay (place_of size) (tower_of size) size) (used_at size) 0 (2 * size) (λ n low below. way_on_grid size n few (omega arith)) in
    let less : (size - 1) + 1 ≡ size = omega arith in
    let short = all_short (place_of size) (tower_of size) (size - 1) ways (subst (λ (s : ℕ). Each (IsGridWay (place_of size) (tower_of size) s) ways) (sym less) grid) in
    let count : length ways ≡ 2 * size = length-map-range_with_len (used_at size) 0 (2 * size) in
    let product = mul-le (2 * size) (size - 1) 600 299 (omega arith) (omega arith) in
    let many : length (pieces_of (tower_of size) ways) ≡ 2 * size * (size - 1) = short.many ∙ ap (λ n. n * (size - 1)) count in
    let all = all_laid (place_of size) nothing (pieces_of (tower_of size) ways) short.short (omega (arith, many, product)) (omega (arith, many, product)) in
    record {
      to = all.to;
      is = rw (nodes_once size (size * size), used, none_missing (place_of size) (tower_of size) ways (placed_of (place_of size) (tower_of size) size ways grid)) all.is;
      edges = all.edges ∙ omega (arith, many);
    }
