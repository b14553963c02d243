use Rattle.std.proofs.Common.{◌≡◌, ℕ, ◌≤◌, ◌*◌, ℤ, ◌-ℤ◌, ◌*ℤ◌, arith}
use Rattle.std.specs.Int.{w64, w128, cast_signed, cast_unsigned}
use Rattle.std.proofs.lemmas.Int.{ints, unsigned_abs-mul}
use Rattle.std.proofs.lemmas.Nat.{mul-le}
use Rattle.std.specs.Int.RustNames.{unsigned_abs}
use Rattle.geo_math.specs.Foot.{area}
use Rattle.geo_math.proofs.foot.Seen.area.Goals as goal

difference_small : (x y : ℤ) → unsigned_abs x ≤ 6480000000000000000 → unsigned_abs y ≤ 6480000000000000000 → unsigned_abs (x -ℤ y) ≤ 12960000000000000000
difference_small x y h k = omega (arith, ints)

product_small : (a b : ℤ) (m n : ℕ) → unsigned_abs a ≤ m → unsigned_abs b ≤ n → m * n ≤ 6480000000000000000 → unsigned_abs (a *ℤ b) ≤ 6480000000000000000
product_small a b m n h k whole = let e = unsigned_abs-mul a b in let l = mul-le (unsigned_abs a) (unsigned_abs b) m n h k in omega arith

pub overflow_sub-result : goal.overflow_sub-result
overflow_sub-result c = omega (arith, ints)

pub returns-clause-value : goal.returns-clause-value
unfolding area
returns-clause-value c =
    let a = c.args.self in
    let b = c.args.other in
    let a_east : cast_signed w64 (cast_unsigned w64 a.east) ≡ a.east = omega (arith, ints) in
    let a_north : cast_signed w64 (cast_unsigned w64 a.north) ≡ a.north = omega (arith, ints) in
    let b_east : cast_signed w64 (cast_unsigned w64 b.east) ≡ b.east = omega (arith, ints) in
    let b_north : cast_signed w64 (cast_unsigned w64 b.north) ≡ b.north = omega (arith, ints) in
    let whole : cast_signed w128 (cast_unsigned w128 (cast_signed w128 (cast_unsigned w128 c.product.result) -ℤ cast_signed w128 (cast_unsigned w128 c.product-2.result))) ≡ c.product.result -ℤ c.product-2.result = omega (arith, ints) in
    cc

pub returns-clause-small : goal.returns-clause-small
returns-clause-small c =
    let a = c.args.self in
    let b = c.args.other in
    let a_east : cast_signed w64 (cast_unsigned w64 a.east) ≡ a.east = omega (arith, ints) in
    let a_north : cast_signed w64 (cast_unsigned w64 a.north) ≡ a.north = omega (arith, ints) in
    let b_east : cast_signed w64 (cast_unsigned w64 b.east) ≡ b.east = omega (arith, ints) in
    let b_north : cast_signed w64 (cast_unsigned w64 b.north) ≡ b.north = omega (arith, ints) in
    let first : c.product.result ≡ a.east *ℤ b.north = cc in
    let second : c.product-2.result ≡ a.north *ℤ b.east = cc in
    let one = rw (← first) at (product_small a.east b.north 3600000000 1800000000 c.requires.near.east c.requires.other.north (omega arith)) in
    let two = rw (← second) at (product_small a.north b.east 1800000000 3600000000 c.requires.near.north c.requires.other.east (omega arith)) in
    let whole : cast_signed w128 (cast_unsigned w128 (cast_signed w128 (cast_unsigned w128 c.product.result) -ℤ cast_signed w128 (cast_unsigned w128 c.product-2.result))) ≡ c.product.result -ℤ c.product-2.result = omega (arith, ints) in
    rw whole (difference_small c.product.result c.product-2.result one two)
