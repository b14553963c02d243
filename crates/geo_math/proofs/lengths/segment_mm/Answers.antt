use Rattle.std.proofs.Common.{◌≡◌, ◌-ℤ◌, arith}
use Rattle.std.specs.Int.{w32, w64, cast_signed, cast_unsigned}
use Rattle.std.proofs.lemmas.Int.{ints}
use Rattle.geo_math.specs.Lengths.{segment_length}
use Rattle.geo_math.proofs.lengths.segment_mm.Goals as goal

pub returns-clause-value : goal.returns-clause-value
unfolding segment_length
returns-clause-value c =
    let a = c.args.a in
    let b = c.args.b in
    let lat_a : cast_signed w32 (cast_unsigned w32 a.lat) ≡ a.lat = omega (arith, ints) in
    let lat_b : cast_signed w32 (cast_unsigned w32 b.lat) ≡ b.lat = omega (arith, ints) in
    let middle : cast_signed w64 (cast_unsigned w64 c.middle.result) ≡ c.middle.result = omega (arith, ints) in
    let east : cast_signed w64 (cast_unsigned w64 (cast_signed w64 (cast_unsigned w64 c.from.result) -ℤ cast_signed w64 (cast_unsigned w64 c.from-2.result))) ≡ b.lon -ℤ a.lon = omega (arith, ints) in
    let scaled : cast_signed w64 (cast_unsigned w64 c.scaled-east.result) ≡ c.scaled-east.result = omega (arith, ints) in
    let north : cast_signed w64 (cast_unsigned w64 (cast_signed w64 (cast_unsigned w64 c.from-3.result) -ℤ cast_signed w64 (cast_unsigned w64 c.from-4.result))) ≡ b.lat -ℤ a.lat = omega (arith, ints) in
    cc
