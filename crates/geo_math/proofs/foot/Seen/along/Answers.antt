use Rattle.std.proofs.Common.{◌≡◌, pos, ◌+ℤ◌, ◌-ℤ◌, ap, arith}
use Rattle.std.specs.Int.{w64, w128, cast_signed, cast_unsigned}
use Rattle.std.proofs.lemmas.Int.{ints}
use Rattle.geo_math.specs.declared.foot.Seen.{Seen}
use Rattle.geo_math.specs.Foot.{along}
use Rattle.geo_math.proofs.foot.Seen.along.Goals as goal

pub overflow_add-result : goal.overflow_add-result
overflow_add-result c = omega (arith, ints)

pub overflow_sub-result : goal.overflow_sub-result
overflow_sub-result c = omega (arith, ints)

pub returns : goal.returns
unfolding along
returns c =
    let self = c.args.self in
    let stepped = c.step_to-step.result in
    let east : cast_signed w64 (cast_unsigned w64 self.east) ≡ self.east = omega (arith, ints) in
    let north : cast_signed w64 (cast_unsigned w64 self.north) ≡ self.north = omega (arith, ints) in
    let step_east : cast_signed w64 (cast_unsigned w64 stepped.east) ≡ stepped.east = omega (arith, ints) in
    let step_north : cast_signed w64 (cast_unsigned w64 stepped.north) ≡ stepped.north = omega (arith, ints) in
    let is_east = ap (λ (s : Seen). s.east) c.step_to-step.ensures.value in
    let is_north = ap (λ (s : Seen). s.north) c.step_to-step.ensures.value in
    let whole : cast_signed w128 (cast_unsigned w128 (pos 0 -ℤ cast_signed w128 (cast_unsigned w128 (cast_signed w128 (cast_unsigned w128 c.product.result) +ℤ cast_signed w128 (cast_unsigned w128 c.product-2.result))))) ≡ pos 0 -ℤ (c.product.result +ℤ c.product-2.result) = omega (arith, ints) in
    cc
