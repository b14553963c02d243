-- Neighbours of the grid are apart, so the lines between them are long.
use Rattle.std.proofs.Common.{◌≡◌, ◌∙◌, ℕ, zero, suc, ◌+◌, ◌-◌, ◌*◌, ◌/◌, ◌%◌, ◌<◌, ◌≤◌, ℤ, pos, neg_ℤ, ◌-ℤ◌, Bool, true, false, cond, [], ◌∷◌, Option, Some, inl, inr, sym, ap, subst, refl, arith}
use Rattle.std.specs.Prelude.{int_lt, unwrap_or}
use Rattle.std.specs.Int.RustNames.{unsigned_abs}
use Rattle.std.proofs.Math.Nat.{lt-div-mul-add}
use Rattle.std.proofs.lemmas.Bool.{cases_lt}
use Rattle.std.proofs.lemmas.Nat.{div-mul-add, mod-mul-add, mul-le}
use Rattle.gh_base.specs.declared.map.Point.{Point}
use Rattle.geo_math.specs.Lengths.{diagonal, line_length, middle, root, scaled, scaled_size, segment_length}
use Rattle.geo_math.proofs.Squares.{root_is}
use Rattle.map_import.specs.Roads.{origin, place_at, place_in, points_along}
use Rattle.generated_run.specs.Maps.{id_at, map_of}
use Rattle.generated_run.proofs.GridNodes.{node_there}

-- a place of the grid
abbrev pub point_at : ℕ → ℕ → Point
point_at row column = record { lat = pos (row * 100000); lon = pos (column * 100000) }

grid_below : (size row column : ℕ) → row < size → column < size → row * size + column < size * size
grid_below size row column r c = let top = mul-le (row + 1) size size size (omega arith) (omega arith) in omega arith

pub placed : (size row column : ℕ) → row < size → column < size → place_in (map_of size).nodes (id_at size row column) ≡ Some (point_at row column)
unfolding map_of
placed size row column r c =
    let n = row * size + column in
    node_there size 0 (size * size) n (omega arith) (let below = grid_below size row column r c in omega arith)
    ∙ ap (λ (k : ℕ). let p : Point = record { lat = pos (k * 100000); lon = pos (n % size * 100000) } in Some p) (div-mul-add row size column c)
    ∙ ap (λ (k : ℕ). let p : Point = record { lat = pos (row * 100000); lon = pos (k * 100000) } in Some p) (mod-mul-add row size column c)

pub place_is : (size row column : ℕ) → row < size → column < size → place_at (place_in (map_of size).nodes) (id_at size row column) ≡ point_at row column
place_is size row column r c = ap (λ (p : Option Point). unwrap_or p origin) (placed size row column r c)

apart_by : (a b n : ℕ) → b ≡ a + n → unsigned_abs (pos b -ℤ pos a) ≡ n
apart_by a b n is = grind arith

size_of_sign : (b : Bool) (n : ℕ) → unsigned_abs (cond b (neg_ℤ (pos n)) (pos n)) ≡ n
size_of_sign true zero = refl
size_of_sign true (suc n) = refl
size_of_sign false n = refl

quotient_some : (n d : ℕ) → 0 < d → d ≤ n → 1 ≤ n / d
quotient_some n d some le = elim (cases_lt 0 (n / d)) [
  | inl more ↦ omega arith
  | inr none ↦
      let zero : n / d ≡ 0 = omega arith in
      let below : n < n / d * d + d = lt-div-mul-add some in
      absurd (let low : n < 0 * d + d = subst (λ q. n < q * d + d) zero below in omega arith)
]

scaled_some : (size m : ℕ) → 100000 ≤ size → m ≤ 30000000 → 1 ≤ scaled_size size m
unfolding scaled_size
scaled_some size m long near =
    let small = mul-le m m 30000000 30000000 near near in
    let top = mul-le 100000 (3240000000000000000 - 4 * (m * m)) size (3240000000000000000 - 4 * (m * m)) long (omega arith) in
    quotient_some (size * (3240000000000000000 - 4 * (m * m))) (3240000000000000000 + m * m) (omega arith) (omega arith)

east_some : (d l : ℤ) → 100000 ≤ unsigned_abs d → unsigned_abs l ≤ 30000000 → 1 ≤ unsigned_abs (scaled d l)
unfolding scaled
east_some d l long near =
    let e = size_of_sign (int_lt d (pos 0)) (scaled_size (unsigned_abs d) (unsigned_abs l)) in
    let s = scaled_some (unsigned_abs d) (unsigned_abs l) long near in
    omega (arith, e, s)

middle_near : (a : ℕ) → a ≤ 30000000 → unsigned_abs (middle (pos a) (pos a)) ≤ 30000000
unfolding middle
middle_near a near = omega arith

diagonal_some : (e n : ℕ) → 1 ≤ e * e + n * n → 0 < diagonal e n
unfolding diagonal
diagonal_some e n some =
    let r : ℕ = root ((e * e + n * n) * 1000000) in
    let is = root_is ((e * e + n * n) * 1000000) in
    let far : 1000 ≤ r = elim (cases_lt r 1000) [
      | inr more ↦ more
      | inl less ↦ let top = mul-le (r + 1) (r + 1) 1000 1000 (omega arith) (omega arith) in let high = is.above in absurd (omega arith)
    ] in
    quotient_some (r * 111194927) 10000000000 (omega arith) (omega arith)

square_some : (n : ℕ) → 1 ≤ n → 1 ≤ n * n
square_some n some = let top = mul-le 1 1 n n some some in omega arith

row_long : (row column : ℕ) → row < 300 → 0 < segment_length (point_at row column) (point_at row (column + 1))
unfolding segment_length
row_long row column few =
    let long = apart_by (column * 100000) ((column + 1) * 100000) 100000 (omega arith) in
    let near = middle_near (row * 100000) (omega arith) in
    let east = east_some (pos ((column + 1) * 100000) -ℤ pos (column * 100000)) (middle (pos (row * 100000)) (pos (row * 100000))) (omega (arith, long)) near in
    let square = square_some _ east in
    diagonal_some _ _ (omega (arith, square))

column_long : (row column : ℕ) → 0 < segment_length (point_at row column) (point_at (row + 1) column)
unfolding segment_length
column_long row column =
    let long = apart_by (row * 100000) ((row + 1) * 100000) 100000 (omega arith) in
    let square = square_some (unsigned_abs (pos ((row + 1) * 100000) -ℤ pos (row * 100000))) (omega (arith, long)) in
    diagonal_some _ _ (omega (arith, square))

line_of : (place : ℤ → Option Point) (u v : ℤ) (p q : Point) → place_at place u ≡ p → place_at place v ≡ q → 0 < segment_length p q → 0 < line_length (points_along place (u ∷ v ∷ []))
line_of place u v p q at_u at_v long =
    let here : 0 < segment_length (place_at place u) (place_at place v) =
    subst (λ (a : Point). 0 < segment_length a (place_at place v)) (sym at_u) (subst (λ (b : Point). 0 < segment_length p b) (sym at_v) long) in
    omega (arith, here)

pub row_line : (size row column : ℕ) → size ≤ 300 → row < size → column + 1 < size → 0 < line_length (points_along (place_in (map_of size).nodes) (id_at size row column ∷ id_at size row (column + 1) ∷ []))
row_line size row column few r c =
    line_of (place_in (map_of size).nodes) (id_at size row column) (id_at size row (column + 1)) (point_at row column) (point_at row (column + 1))
    (place_is size row column r (omega arith)) (place_is size row (column + 1) r c) (row_long row column (omega arith))

pub column_line : (size row column : ℕ) → row + 1 < size → column < size → 0 < line_length (points_along (place_in (map_of size).nodes) (id_at size row column ∷ id_at size (row + 1) column ∷ []))
column_line size row column r c =
    line_of (place_in (map_of size).nodes) (id_at size row column) (id_at size (row + 1) column) (point_at row column) (point_at (row + 1) column)
    (place_is size row column (omega arith) c) (place_is size (row + 1) column r c) (column_long row column)
