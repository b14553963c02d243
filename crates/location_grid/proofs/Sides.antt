-- How near a segment can be that stands to one side of a point.
use Rattle.std.proofs.Common.{◌≡◌, ℕ, suc, ◌+◌, ◌*◌, ◌-◌, ◌≤◌, ◌<◌, ◌⊎◌, ℤ, pos, negsuc, neg_ℤ, ◌+ℤ◌, ◌-ℤ◌, ◌*ℤ◌, int_le, Bool, true, false, cond, ◌/◌, ◌∙◌, refl, ap, arith, inl, inr}
use Rattle.std.proofs.lemmas.Int.{ints, unsigned_abs-mul}
use Rattle.std.proofs.lemmas.Nat.{mul-le, le-div}
use Rattle.std.specs.Int.RustNames.{unsigned_abs}
use borrow.Author.Differences.{up, down, product_is, abs_is}
use Rattle.std.proofs.lemmas.Bool.{cases_lt}
use Rattle.std.proofs.Math.IntN.{+ℤ_comm}
use Rattle.std.proofs.Math.Nat.{mul-lt-mul_of_pos_left}
use Rattle.gh_base.specs.declared.map.Point.{Point}
use Rattle.geo_math.specs.declared.foot.Snap.{Snap}
use Rattle.geo_math.specs.Foot.{square, seen, away2, step, along, area, inside, foot_of, foot}

-- a number is the difference of two naturals
record Is (z : ℤ) (p m : ℕ) : Type 0 where
  is : up z + m ≡ p + down z

is_self : (z : ℤ) → Is z (up z) (down z)
is_self z = record { is = omega arith }

is_add : (z w : ℤ) (p m q n : ℕ) → Is z p m → Is w q n → Is (z +ℤ w) (p + q) (m + n)
is_add z w p m q n a b = record { is = let i = a.is in let j = b.is in omega (arith, ints) }

is_sub : (z w : ℤ) (p m q n : ℕ) → Is z p m → Is w q n → Is (z -ℤ w) (p + n) (m + q)
is_sub z w p m q n a b = record { is = let i = a.is in let j = b.is in omega (arith, ints) }

is_mul : (z w : ℤ) (p m q n : ℕ) → Is z p m → Is w q n → Is (z *ℤ w) (p * q + m * n) (p * n + m * q)
is_mul z w p m q n a b = record {
  is =
      let one = ap (λ (t : ℕ). t * up w) a.is in
      let two = ap (λ (t : ℕ). t * down w) a.is in
      let three = ap (λ (t : ℕ). t * p) b.is in
      let four = ap (λ (t : ℕ). t * m) b.is in
      let both = product_is z w in
      omega arith;
}

-- its square
is_square : (z : ℤ) (p m : ℕ) → Is z p m → square z + p * m + m * p ≡ p * p + m * m
is_square (pos k) p m a = let e : k + m ≡ p = omega (arith, a.is) in rw (← e) (omega arith)
is_square (negsuc k) p m a = let e : p + suc k ≡ m = omega (arith, a.is) in rw (← e) (omega arith)

-- the step times the area, of a segment from (x, ±y) to (z, ±w), is as far as the parts of its ends say
pub core : (x1 x2 z1 z2 y w n q : ℕ)
    → n + (x1 * (z1 + x2) + x2 * (z2 + x1)) + y * w ≡ (x1 * (z2 + x1) + x2 * (z1 + x2)) + y * y
    → q + 2 * ((z1 + x2) * (z2 + x1)) + 2 * (w * y) ≡ (z1 + x2) * (z1 + x2) + (z2 + x1) * (z2 + x1) + w * w + y * y
    → ((z1 + x2) * (x1 * w + y * z2) + (z2 + x1) * (x2 * w + y * z1)) + q * y + n * w
    ≡ ((z1 + x2) * (x2 * w + y * z1) + (z2 + x1) * (x1 * w + y * z2)) + n * y
core x1 x2 z1 z2 y w n q along whole =
    let a = ap (λ (t : ℕ). t * y) along in
    let b = ap (λ (t : ℕ). t * w) along in
    let c = ap (λ (t : ℕ). t * y) whole in
    omega arith

-- so where the ends lie at least r to a side, the step times the area is at least r times the step's square
reach : (y w n q r over under : ℕ) → n ≤ q → r ≤ y → r ≤ w → over + q * y + n * w ≡ under + n * y → r * q ≤ under - over
reach y w n q r over under inside low high e =
    let parts : n + (q - n) ≡ q = omega arith in
    let a = mul-le r (q - n) y (q - n) low (omega arith) in
    let b = mul-le r n w n high (omega arith) in
    let c = ap (λ (t : ℕ). t * y) parts in
    let d = ap (λ (t : ℕ). r * t) parts in
    omega arith

-- a number that is so much below another's, in size
size_of : (z : ℤ) (p m far : ℕ) → Is z p m → (far ≤ p - m) ⊎ (far ≤ m - p) → far ≤ unsigned_abs z
size_of z p m far a (inl h) = let i = a.is in let s = abs_is z in omega arith
size_of z p m far a (inr h) = let i = a.is in let s = abs_is z in omega arith

-- two numbers at least r to one side of 0
pub data IsAside (r : ℕ) (s t : ℤ) : Type 0 where
  at_all : r ≡ 0 → IsAside r s t
  above : (y w : ℕ) → s ≡ pos y → t ≡ pos w → r ≤ y → r ≤ w → IsAside r s t
  below : (y w : ℕ) → s ≡ neg_ℤ (pos y) → t ≡ neg_ℤ (pos w) → r ≤ y → r ≤ w → IsAside r s t

up_along : (x z : ℤ) (y w n : ℕ) → pos n ≡ pos 0 -ℤ (x *ℤ (z -ℤ x) +ℤ pos y *ℤ (pos w -ℤ pos y))
    → n + (up x * (up z + down x) + down x * (down z + up x)) + y * w ≡ (up x * (down z + up x) + down x * (up z + down x)) + y * y
up_along x z y w n e =
    let dx = is_sub z x (up z) (down z) (up x) (down x) (is_self z) (is_self x) in
    let dy = is_sub (pos w) (pos y) w 0 y 0 (record { is = omega arith }) (record { is = omega arith }) in
    let a = is_mul x (z -ℤ x) (up x) (down x) (up z + down x) (down z + up x) (is_self x) dx in
    let b = is_mul (pos y) (pos w -ℤ pos y) y 0 (w + 0) (0 + y) (record { is = omega arith }) dy in
    let c = a.is in
    let d = b.is in
    omega (arith, ints)

down_along : (x z : ℤ) (y w n : ℕ) → pos n ≡ pos 0 -ℤ (x *ℤ (z -ℤ x) +ℤ neg_ℤ (pos y) *ℤ (neg_ℤ (pos w) -ℤ neg_ℤ (pos y)))
    → n + (up x * (up z + down x) + down x * (down z + up x)) + y * w ≡ (up x * (down z + up x) + down x * (up z + down x)) + y * y
down_along x z y w n e =
    let below_y : Is (neg_ℤ (pos y)) 0 y = record { is = omega (arith, ints) } in
    let below_w : Is (neg_ℤ (pos w)) 0 w = record { is = omega (arith, ints) } in
    let dx = is_sub z x (up z) (down z) (up x) (down x) (is_self z) (is_self x) in
    let dy = is_sub (neg_ℤ (pos w)) (neg_ℤ (pos y)) 0 w 0 y below_w below_y in
    let a = is_mul x (z -ℤ x) (up x) (down x) (up z + down x) (down z + up x) (is_self x) dx in
    let b = is_mul (neg_ℤ (pos y)) (neg_ℤ (pos w) -ℤ neg_ℤ (pos y)) 0 y (0 + y) (w + 0) below_y dy in
    let c = a.is in
    let d = b.is in
    omega (arith, ints)

up_whole : (x z : ℤ) (y w : ℕ) → square (z -ℤ x) + square (pos w -ℤ pos y) + 2 * ((up z + down x) * (down z + up x)) + 2 * (w * y)
    ≡ (up z + down x) * (up z + down x) + (down z + up x) * (down z + up x) + w * w + y * y
up_whole x z y w =
    let dx = is_sub z x (up z) (down z) (up x) (down x) (is_self z) (is_self x) in
    let dy = is_sub (pos w) (pos y) w 0 y 0 (record { is = omega arith }) (record { is = omega arith }) in
    let a = is_square (z -ℤ x) (up z + down x) (down z + up x) dx in
    let b = is_square (pos w -ℤ pos y) (w + 0) (0 + y) dy in
    omega arith

down_whole : (x z : ℤ) (y w : ℕ) → square (z -ℤ x) + square (neg_ℤ (pos w) -ℤ neg_ℤ (pos y)) + 2 * ((up z + down x) * (down z + up x)) + 2 * (w * y)
    ≡ (up z + down x) * (up z + down x) + (down z + up x) * (down z + up x) + w * w + y * y
down_whole x z y w =
    let below_y : Is (neg_ℤ (pos y)) 0 y = record { is = omega (arith, ints) } in
    let below_w : Is (neg_ℤ (pos w)) 0 w = record { is = omega (arith, ints) } in
    let dx = is_sub z x (up z) (down z) (up x) (down x) (is_self z) (is_self x) in
    let dy = is_sub (neg_ℤ (pos w)) (neg_ℤ (pos y)) 0 w 0 y below_w below_y in
    let a = is_square (z -ℤ x) (up z + down x) (down z + up x) dx in
    let b = is_square (neg_ℤ (pos w) -ℤ neg_ℤ (pos y)) (0 + y) (w + 0) dy in
    omega arith

-- the product of the step and the area
up_product : (x z : ℤ) (y w : ℕ) → Is ((z -ℤ x) *ℤ (x *ℤ pos w -ℤ pos y *ℤ z))
    ((up z + down x) * (up x * w + y * down z) + (down z + up x) * (down x * w + y * up z)) ((up z + down x) * (down x * w + y * up z) + (down z + up x) * (up x * w + y * down z))
up_product x z y w =
    let dx = is_sub z x (up z) (down z) (up x) (down x) (is_self z) (is_self x) in
    let a = is_mul x (pos w) (up x) (down x) w 0 (is_self x) (record { is = omega arith }) in
    let b = is_mul (pos y) z y 0 (up z) (down z) (record { is = omega arith }) (is_self z) in
    let c = is_sub _ _ _ _ _ _ a b in
    let d = is_mul _ _ _ _ _ _ dx c in
    record { is = let i = d.is in omega arith }

down_product : (x z : ℤ) (y w : ℕ) → Is ((z -ℤ x) *ℤ (x *ℤ neg_ℤ (pos w) -ℤ neg_ℤ (pos y) *ℤ z))
    ((up z + down x) * (down x * w + y * up z) + (down z + up x) * (up x * w + y * down z)) ((up z + down x) * (up x * w + y * down z) + (down z + up x) * (down x * w + y * up z))
down_product x z y w =
    let below_y : Is (neg_ℤ (pos y)) 0 y = record { is = omega (arith, ints) } in
    let below_w : Is (neg_ℤ (pos w)) 0 w = record { is = omega (arith, ints) } in
    let dx = is_sub z x (up z) (down z) (up x) (down x) (is_self z) (is_self x) in
    let a = is_mul x (neg_ℤ (pos w)) (up x) (down x) 0 w (is_self x) below_w in
    let b = is_mul (neg_ℤ (pos y)) z 0 y (up z) (down z) below_y (is_self z) in
    let c = is_sub _ _ _ _ _ _ a b in
    let d = is_mul _ _ _ _ _ _ dx c in
    record { is = let i = d.is in omega arith }

-- from a place (x, s) to a place (z, t), both r to a side: n of q parts along the step, where the foot lies inside
pub side : (x s z t : ℤ) (r n q : ℕ) → IsAside r s t → pos n ≡ pos 0 -ℤ (x *ℤ (z -ℤ x) +ℤ s *ℤ (t -ℤ s)) → q ≡ square (z -ℤ x) + square (t -ℤ s) → n ≤ q
    → r * q ≤ unsigned_abs (z -ℤ x) * unsigned_abs (x *ℤ t -ℤ s *ℤ z)
side x s z t r n q (at_all e) along whole inside = rw e (omega arith)
side x s z t r n q (above y w es et low high) along whole inside =
    let along' = rw (es, et) at along in
    let whole' = rw (es, et) at whole in
    let one = up_along x z y w n along' in
    let two = up_whole x z y w in
    let all = core (up x) (down x) (up z) (down z) y w n q one (omega arith) in
    let product = up_product x z y w in
    let far = reach y w n q r _ _ inside low high all in
    rw (es, et, ← unsigned_abs-mul) (size_of _ _ _ (r * q) product (inr far))
side x s z t r n q (below y w es et low high) along whole inside =
    let along' = rw (es, et) at along in
    let whole' = rw (es, et) at whole in
    let one = down_along x z y w n along' in
    let two = down_whole x z y w in
    let all = core (up x) (down x) (up z) (down z) y w n q one (omega arith) in
    let product = down_product x z y w in
    let far = reach y w n q r _ _ inside low high all in
    rw (es, et, ← unsigned_abs-mul) (size_of _ _ _ (r * q) product (inl far))

-- what a product is at least, cancelled: (x q)² + (r q)² ≤ c² q says that (x² + r²) q ≤ c²
cancel : (x r c dx dy q : ℕ) → 0 < q → q ≡ dx * dx + dy * dy → r * q ≤ dx * c → x * q ≤ dy * c → (x * x + r * r) * q ≤ c * c
cancel x r c dx dy q some whole north east =
    let a = mul-le (r * q) (r * q) (dx * c) (dx * c) north north in
    let b = mul-le (x * q) (x * q) (dy * c) (dy * c) east east in
    let e = ap (λ (t : ℕ). c * c * t) whole in
    let over : ((x * x + r * r) * q) * q ≤ (c * c) * q = omega arith in
    elim (cases_lt (c * c) ((x * x + r * r) * q)) [
      | inl less ↦ let l = mul-lt-mul_of_pos_left less some in absurd (omega arith)
      | inr enough ↦ enough
    ]

abs_aside : (r : ℕ) (s t : ℤ) → IsAside r s t → (r ≤ unsigned_abs s) × (r ≤ unsigned_abs t)
abs_aside r s t (at_all e) = (omega arith, omega arith)
abs_aside r s t (above y w es et low high) = (rw es low, rw et high)
abs_aside r s t (below y w es et low high) = (rw es (omega (arith, ints)), rw et (omega (arith, ints)))

away_aside : (x r : ℕ) (e n : ℤ) → x ≤ unsigned_abs e → r ≤ unsigned_abs n → x * x + r * r ≤ square e + square n
away_aside x r e n east north =
    let b = mul-le x x (unsigned_abs e) (unsigned_abs e) east east in
    let c = mul-le r r (unsigned_abs n) (unsigned_abs n) north north in
    omega arith

turned_size : (s t : ℤ) → unsigned_abs (s -ℤ t) ≡ unsigned_abs (t -ℤ s)
turned_size s t = omega (arith, ints)

from_between : (al : ℤ) (q : ℕ) → int_le al (pos 0) ≡ false → int_le (pos q) al ≡ false → pos (unsigned_abs al) ≡ al
from_between (pos k) q behind past = refl
from_between (negsuc k) q behind past = absurd (omega (arith, ints))

below_between : (al : ℤ) (q : ℕ) → int_le al (pos 0) ≡ false → int_le (pos q) al ≡ false → unsigned_abs al < q
below_between al q behind past = omega (arith, ints)

-- a foot strictly inside the segment from (e, n) to (f, g)
far_inside : (e n f g : ℤ) (x r : ℕ) → IsAside x e f → IsAside r n g
    → int_le (pos 0 -ℤ (e *ℤ (f -ℤ e) +ℤ n *ℤ (g -ℤ n))) (pos 0) ≡ false
    → int_le (pos (square (f -ℤ e) + square (g -ℤ n))) (pos 0 -ℤ (e *ℤ (f -ℤ e) +ℤ n *ℤ (g -ℤ n))) ≡ false
    → x * x + r * r ≤ square (e *ℤ g -ℤ n *ℤ f) / (square (f -ℤ e) + square (g -ℤ n))
far_inside e n f g x r east north behind past =
    let al = pos 0 -ℤ (e *ℤ (f -ℤ e) +ℤ n *ℤ (g -ℤ n)) in
    let q = square (f -ℤ e) + square (g -ℤ n) in
    let k = unsigned_abs al in
    let is : pos k ≡ al = from_between al q behind past in
    let within : k < q = below_between al q behind past in
    let some : 0 < q = omega arith in
    let turn : al ≡ pos 0 -ℤ (n *ℤ (g -ℤ n) +ℤ e *ℤ (f -ℤ e)) = ap (λ (t : ℤ). pos 0 -ℤ t) (+ℤ_comm (e *ℤ (f -ℤ e)) (n *ℤ (g -ℤ n))) in
    let turned : q ≡ square (g -ℤ n) + square (f -ℤ e) = omega arith in
    let a = side e n f g r k q north is refl (omega arith) in
    let b = side n e g f x k q east (is ∙ turn) turned (omega arith) in
    let c : unsigned_abs (n *ℤ f -ℤ e *ℤ g) ≡ unsigned_abs (e *ℤ g -ℤ n *ℤ f) = turned_size (n *ℤ f) (e *ℤ g) in
    le-div (x * x + r * r) (square (e *ℤ g -ℤ n *ℤ f)) q some
    (cancel x r (unsigned_abs (e *ℤ g -ℤ n *ℤ f)) (unsigned_abs (f -ℤ e)) (unsigned_abs (g -ℤ n)) q some refl a (rw c at b))

-- of three, by two tests
chosen : (first second third : Snap) (b d : Bool) (m : ℕ) → m ≤ first.dist2 → m ≤ second.dist2 → (b ≡ false → d ≡ false → m ≤ third.dist2) → m ≤ (cond b first (cond d second third)).dist2
chosen first second third true d m f g h = f
chosen first second third false true m f g h = g
chosen first second third false false m f g h = h refl refl

-- the foot on a segment whose ends are seen so far to a side, east and north, is no nearer
pub far_foot : (p a b : Point) (x r : ℕ) → IsAside x (seen p a).east (seen p b).east → IsAside r (seen p a).north (seen p b).north → x * x + r * r ≤ (foot p a b).dist2
unfolding foot foot_of inside along area away2 step
far_foot p a b x r east north =
    let xs = abs_aside x (seen p a).east (seen p b).east east in
    let rs = abs_aside r (seen p a).north (seen p b).north north in
    chosen _ _ _ _ _ (x * x + r * r)
    (away_aside x r (seen p a).east (seen p a).north xs.0 rs.0)
    (away_aside x r (seen p b).east (seen p b).north xs.1 rs.1)
    (far_inside (seen p a).east (seen p a).north (seen p b).east (seen p b).north x r east north)
