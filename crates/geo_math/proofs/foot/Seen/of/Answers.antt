use Rattle.std.proofs.Common.{◌≡◌, ℤ, ◌-ℤ◌, ◌∙◌, arith}
use Rattle.std.specs.Int.{w64, cast_signed, cast_unsigned}
use Rattle.std.proofs.lemmas.Int.{ints}
use Rattle.gh_base.specs.declared.map.Point.{Point}
use Rattle.geo_math.specs.Lengths.{scaled}
use Rattle.geo_math.specs.declared.foot.Seen.{Seen}
use Rattle.geo_math.specs.Foot.{seen}
use Rattle.geo_math.proofs.foot.Seen.of.Goals as goal

seen_of : (p place : Point) (east north : ℤ) → east ≡ scaled (place.lon -ℤ p.lon) p.lat → north ≡ place.lat -ℤ p.lat → ◌≡◌ {A = Seen} record { east = east; north = north } (seen p place)
unfolding seen
seen_of p place east north e n = cc

pub returns-clause-value : goal.returns-clause-value
returns-clause-value c =
    let p = c.args.p in
    let place = c.args.place in
    let lon : cast_signed w64 (cast_unsigned w64 c.difference.result) ≡ place.lon -ℤ p.lon = omega (arith, ints) in
    let lat : cast_signed w64 (cast_unsigned w64 c.from.result) ≡ p.lat = omega (arith, ints) in
    let size : cast_signed w64 (cast_unsigned w64 c.scaled.result) ≡ c.scaled.result = omega (arith, ints) in
    let north : cast_signed w64 (cast_unsigned w64 c.difference-2.result) ≡ place.lat -ℤ p.lat = omega (arith, ints) in
    seen_of p place _ _ (size ∙ (rw (lon, lat) at c.scaled.ensures.value)) north
