-- Lines between two points near the origin are short.
use Rattle.std.proofs.Common.{◌≡◌, ℕ, zero, suc, ◌+◌, ◌-◌, ◌*◌, ◌<◌, ◌≤◌, ℤ, pos, neg_ℤ, ◌-ℤ◌, Bool, true, false, cond, [], ◌∷◌, inl, inr, sym, subst, refl, arith}
use Rattle.std.specs.Prelude.{int_lt}
use Rattle.std.specs.Int.RustNames.{unsigned_abs}
use Rattle.std.proofs.lemmas.Bool.{cases_lt}
use Rattle.std.proofs.lemmas.Nat.{mul-le, div_below}
use Rattle.gh_base.specs.declared.map.Point.{Point}
use Rattle.geo_math.specs.Lengths.{diagonal, middle, root, scaled, scaled_size, segment_length, line_length}
use Rattle.geo_math.proofs.Squares.{root_is}

-- at most 3 degrees north and 3 degrees east
pub record IsNear (point : Point) : Type 0 where
  pub north : ℕ
  pub east : ℕ
  pub is : point ≡ record { lat = pos north; lon = pos east }
  pub north_small : north ≤ 30000000
  pub east_small : east ≤ 30000000

apart : (a b n : ℕ) → a ≤ n → b ≤ n → unsigned_abs (pos b -ℤ pos a) ≤ n
apart a b n p q = grind arith

size_of_sign : (b : Bool) (n : ℕ) → unsigned_abs (cond b (neg_ℤ (pos n)) (pos n)) ≡ n
size_of_sign true zero = refl
size_of_sign true (suc n) = refl
size_of_sign false n = refl

scaled_small : (size m : ℕ) → scaled_size size m ≤ size
unfolding scaled_size
scaled_small size m =
    let top = mul-le size (3240000000000000000 - 4 * (m * m)) size (3240000000000000000 + m * m) (omega arith) (omega arith) in
    let r = div_below (size * (3240000000000000000 - 4 * (m * m))) (3240000000000000000 + m * m) (size + 1) (omega arith) (omega arith) in
    omega arith

east_small : (d l : ℤ) (n : ℕ) → unsigned_abs d ≤ n → unsigned_abs (scaled d l) ≤ n
unfolding scaled
east_small d l n small =
    let e = size_of_sign (int_lt d (pos 0)) (scaled_size (unsigned_abs d) (unsigned_abs l)) in
    let s = scaled_small (unsigned_abs d) (unsigned_abs l) in
    omega (arith, e, s, small)

diagonal_small : (e n : ℕ) → e ≤ 30000000 → n ≤ 30000000 → diagonal e n ≤ 4294967295
unfolding diagonal
diagonal_small e n he hn =
    let r : ℕ = root ((e * e + n * n) * 1000000) in
    let is = root_is ((e * e + n * n) * 1000000) in
    let far = mul-le e e 30000000 30000000 he he in
    let up = mul-le n n 30000000 30000000 hn hn in
    let small : r < 50000000000 = elim (cases_lt r 50000000000) [
      | inl p ↦ p
      | inr p ↦ let top = mul-le 50000000000 50000000000 r r p p in let low = is.below in absurd (omega arith)
    ] in
    let below = div_below (r * 111194927) 10000000000 4294967296 (omega arith) (omega arith) in
    omega arith

segment_short : (a b : Point) → IsNear a → IsNear b → segment_length a b ≤ 4294967295
unfolding segment_length
segment_short a b near_a near_b =
    let is_a = near_a.is in
    let is_b = near_b.is in
    let north : unsigned_abs (b.lat -ℤ a.lat) ≤ 30000000 =
    subst (λ (p : Point). unsigned_abs (b.lat -ℤ p.lat) ≤ 30000000) (sym is_a) (subst (λ (q : Point). unsigned_abs (q.lat -ℤ pos near_a.north) ≤ 30000000) (sym is_b) (apart near_a.north near_b.north 30000000 near_a.north_small near_b.north_small)) in
    let east : unsigned_abs (b.lon -ℤ a.lon) ≤ 30000000 =
    subst (λ (p : Point). unsigned_abs (b.lon -ℤ p.lon) ≤ 30000000) (sym is_a) (subst (λ (q : Point). unsigned_abs (q.lon -ℤ pos near_a.east) ≤ 30000000) (sym is_b) (apart near_a.east near_b.east 30000000 near_a.east_small near_b.east_small)) in
    diagonal_small _ _ (east_small (b.lon -ℤ a.lon) (middle a.lat b.lat) 30000000 east) north

pub near_are_short : (a b : Point) → IsNear a → IsNear b → line_length (a ∷ b ∷ []) ≤ 4294967295
near_are_short a b near_a near_b = let e = segment_short a b near_a near_b in omega (arith, e)
