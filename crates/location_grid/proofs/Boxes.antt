-- No segment in a box is nearer than the box's nearest point.
use Rattle.std.proofs.Common.{◌≡◌, ℕ, zero, suc, ◌+◌, ◌*◌, ◌-◌, ◌/◌, ◌≤◌, ◌<◌, ℤ, pos, negsuc, neg_ℤ, ◌+ℤ◌, ◌-ℤ◌, ◌*ℤ◌, ◌≤ℤ◌, int_le, int_lt, true, false, ◌∙◌, refl, All, arith}
use Rattle.std.proofs.lemmas.Int.{ints, clamps, by_lt_z}
use Rattle.std.proofs.lemmas.Nat.{mul-le, le-div}
use Rattle.std.proofs.Math.IntN.{+ℤ_invr, *ℤ-zero}
use Rattle.std.proofs.Math.Nat.{zero-mul, zero-div, div-mul-le_self}
use Rattle.std.specs.Int.{int_min, int_max}
use Rattle.std.specs.Int.RustNames.{unsigned_abs}
use Rattle.gh_base.specs.declared.map.Point.{Point}
use Rattle.geo_math.specs.Lengths.{scaled, scaled_size, signed_as}
use Rattle.geo_math.specs.Foot.{square, seen, away2, step, along, area, inside, foot_of, foot}
use Rattle.std.proofs.lemmas.List.Elements.{All-get_or}
use Rattle.base_graph.specs.Graphs.{Graph, points_of}
use Rattle.location_grid.specs.Snaps.{foot_at, point_at, segments}
use Rattle.location_grid.specs.Nearest.{IsNoNearer}
use Rattle.location_grid.specs.declared.found.Found.{Found}
use Rattle.location_grid.specs.Boxes.{IsIn, nearest_in}
use Rattle.location_grid.specs.declared.bounds.Bounds.{Bounds}
use Rattle.location_grid.proofs.Sides.{IsAside, at_all, above, below, far_foot}

-- numbers in a range lie as far to a side of another as the number of the range that is nearest to it
range_aside : (low high at s t : ℤ) → low ≤ℤ s → s ≤ℤ high → low ≤ℤ t → t ≤ℤ high → IsAside (unsigned_abs (int_min (int_max at low) high -ℤ at)) (s -ℤ at) (t -ℤ at)
range_aside low high at s t sl sh tl th =
    by_lt_z at low
    (λ under. above (unsigned_abs (s -ℤ at)) (unsigned_abs (t -ℤ at)) (omega (arith, ints)) (omega (arith, ints)) (omega (arith, ints, clamps)) (omega (arith, ints, clamps)))
    (λ up_to. by_lt_z high at
    (λ over. below (unsigned_abs (s -ℤ at)) (unsigned_abs (t -ℤ at)) (omega (arith, ints)) (omega (arith, ints)) (omega (arith, ints, clamps)) (omega (arith, ints, clamps)))
    (λ within. at_all (omega (arith, ints, clamps))))

-- a greater size stays as great when it is scaled
div_grows : (a b d : ℕ) → 0 < d → a ≤ b → a / d ≤ b / d
div_grows a b d some h = le-div (a / d) b d some (let l = div-mul-le_self a d in omega arith)

scaled_grows : (a b m : ℕ) → a ≤ b → scaled_size a m ≤ scaled_size b m
unfolding scaled_size
scaled_grows a b m h =
    div_grows (a * (3240000000000000000 - 4 * (m * m))) (b * (3240000000000000000 - 4 * (m * m))) (3240000000000000000 + m * m) (omega arith)
    (mul-le a (3240000000000000000 - 4 * (m * m)) b (3240000000000000000 - 4 * (m * m)) h (omega arith))

scaled_none : (m : ℕ) → scaled_size 0 m ≡ 0
unfolding scaled_size
scaled_none m = rw zero-mul (zero-div (3240000000000000000 + m * m))

not_below : (y : ℕ) → int_lt (pos y) (pos 0) ≡ false
not_below y = grind (arith, ints)

signed_up : (y n : ℕ) → signed_as (pos y) n ≡ pos n
signed_up y n = rw (not_below y) refl

signed_down : (y n : ℕ) → (y ≡ 0 → n ≡ 0) → signed_as (neg_ℤ (pos y)) n ≡ neg_ℤ (pos n)
signed_down zero n none = rw (none refl) refl
signed_down (suc y) n none = refl

signed_size : (z : ℤ) (n : ℕ) → unsigned_abs (signed_as z n) ≡ n
signed_size (pos k) n = rw (signed_up k n) refl
signed_size (negsuc k) n = omega (arith, ints)

size_down : (y : ℕ) → unsigned_abs (neg_ℤ (pos y)) ≡ y
size_down y = omega (arith, ints)

-- so a side stays a side
scaled_aside : (z s t lat : ℤ) → IsAside (unsigned_abs z) s t → IsAside (unsigned_abs (scaled z lat)) (scaled s lat) (scaled t lat)
unfolding scaled
scaled_aside z s t lat (at_all e) = at_all (signed_size z _ ∙ rw e (scaled_none (unsigned_abs lat)))
scaled_aside z s t lat (above y w es et low high) =
    let m = unsigned_abs lat in
    let size : unsigned_abs (scaled z lat) ≡ scaled_size (unsigned_abs z) m = signed_size z _ in
    let a = scaled_grows (unsigned_abs z) y m low in
    let b = scaled_grows (unsigned_abs z) w m high in
    above (scaled_size y m) (scaled_size w m) (rw es (signed_up y (scaled_size y m))) (rw et (signed_up w (scaled_size w m))) (rw size a) (rw size b)
scaled_aside z s t lat (below y w es et low high) =
    let m = unsigned_abs lat in
    let size : unsigned_abs (scaled z lat) ≡ scaled_size (unsigned_abs z) m = signed_size z _ in
    let a = scaled_grows (unsigned_abs z) y m low in
    let b = scaled_grows (unsigned_abs z) w m high in
    let none_s : y ≡ 0 → scaled_size y m ≡ 0 = λ e. rw e (scaled_none m) in
    let none_t : w ≡ 0 → scaled_size w m ≡ 0 = λ e. rw e (scaled_none m) in
    below (scaled_size y m) (scaled_size w m)
    (rw (es, size_down y) (signed_down y (scaled_size y m) none_s)) (rw (et, size_down w) (signed_down w (scaled_size w m) none_t)) (rw size a) (rw size b)

none_along : (e n : ℤ) → int_le (pos 0 -ℤ (e *ℤ (e -ℤ e) +ℤ n *ℤ (n -ℤ n))) (pos 0) ≡ true
none_along e n =
    let one : e -ℤ e ≡ pos 0 = +ℤ_invr e in
    let two : n -ℤ n ≡ pos 0 = +ℤ_invr n in
    let three = *ℤ-zero e in
    let four = *ℤ-zero n in
    rw (one, two, three, four) refl

-- seen from p, the foot on a point is the point
foot_point : (p m : Point) → (foot p m m).dist2 ≡ square (seen p m).east + square (seen p m).north
unfolding foot foot_of along area away2 step
foot_point p m =
    let behind : int_le (along (seen p m) (seen p m)) (pos 0) ≡ true = none_along (seen p m).east (seen p m).north in
    rw behind refl

-- so its square is at least that of the way north
pub north_within : (p m : Point) (north : ℕ) → north ≡ unsigned_abs (m.lat -ℤ p.lat) → north * north ≤ (foot p m m).dist2
unfolding seen
north_within p m north e = let point = foot_point p m in rw e (omega (arith, point))

pub box_near : (bounds : Bounds) (p a b : Point) → IsIn bounds a → IsIn bounds b → (foot p (nearest_in bounds p) (nearest_in bounds p)).dist2 ≤ (foot p a b).dist2
unfolding nearest_in seen
box_near bounds p a b in_a in_b =
    let m = nearest_in bounds p in
    let point = foot_point p m in
    let north = range_aside bounds.south bounds.north p.lat a.lat b.lat in_a.south in_a.north in_b.south in_b.north in
    let east = scaled_aside (m.lon -ℤ p.lon) (a.lon -ℤ p.lon) (b.lon -ℤ p.lon) p.lat (range_aside bounds.west bounds.east p.lon a.lon b.lon in_a.west in_a.east in_b.west in_b.east) in
    let far = far_foot p a b (unsigned_abs (scaled (m.lon -ℤ p.lon) p.lat)) (unsigned_abs (m.lat -ℤ p.lat)) east north in
    rw point far

-- so nothing in a box round an edge's points is nearer than that
pub box_past : (graph : Graph) (p : Point) (bounds : Bounds) (edge : ℕ) (found : Found) → All (IsIn bounds) (points_of graph edge)
    → found.snap.dist2 < (foot p (nearest_in bounds p) (nearest_in bounds p)).dist2 → IsNoNearer graph p edge found.snap.dist2 found.edge.0
box_past graph p bounds edge found inside near =
    let far : (k : ℕ) → k < segments (points_of graph edge) → found.snap.dist2 < (foot_at p (points_of graph edge) k).dist2 =
    λ k h.
    let a : IsIn bounds (point_at (points_of graph edge) k) = All-get_or (IsIn bounds) (points_of graph edge) k _ (omega arith) inside in
    let b : IsIn bounds (point_at (points_of graph edge) (k + 1)) = All-get_or (IsIn bounds) (points_of graph edge) (k + 1) _ (omega arith) inside in
    let l = box_near bounds p (point_at (points_of graph edge) k) (point_at (points_of graph edge) (k + 1)) a b in
    omega arith
    in
    record { least = λ k h. let l = far k h in omega arith; first = λ lt k h. far k h }
