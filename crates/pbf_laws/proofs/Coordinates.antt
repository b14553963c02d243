-- Coordinates are rounded down.
use Rattle.std.proofs.Common.{◌≡◌, ◌∙◌, ℕ, ◌+◌, ◌*◌, ◌/◌, ◌<◌, ◌≤◌, ℤ, pos, negsuc, ◌+ℤ◌, ◌*ℤ◌, ◌≤ℤ◌, nat_abs, Bool, true, false, cond, leb, Some, None, Option, refl, ap, sym, subst, arith}
use Rattle.std.specs.Int.{int_div_euclid}
use Rattle.std.proofs.lemmas.Bool.Decides.{nat_tests}
use Rattle.std.proofs.lemmas.Int.{ints}
use Rattle.pbf_wire.specs.declared.messages.Axis.{Axis}
use Rattle.pbf_wire.specs.Deltas.{coordinate_of, within}
use Rattle.pbf_laws.specs.Numbers.{IsRoundedDown, CoordinatesAreRoundedDown}

floor : (z : ℤ) → IsRoundedDown (int_div_euclid z (pos 100)) z
floor (pos a) = record { low = omega (arith, ints); high = omega (arith, ints) }
floor (negsuc a) = record { low = omega (arith, ints); high = omega (arith, ints) }

kept : (most : ℕ) (z unit : ℤ) → within most z ≡ Some unit → (z ≡ unit) × (nat_abs unit ≤ most)
kept most z unit e = by (leb (nat_abs z) most) refl e
  where
    by : (t : Bool) → leb (nat_abs z) most ≡ t → cond t (Some z) None ≡ Some unit → (z ≡ unit) × (nat_abs unit ≤ most)
    by true test h =
        let same : z ≡ unit = cc in
        let few : nat_abs z ≤ most = grind (arith, nat_tests) in
        (same, subst (λ (k : ℤ). nat_abs k ≤ most) same few)
    by false test h = cc

pub rounded : CoordinatesAreRoundedDown
unfolding coordinate_of
rounded axis value unit e =
    let nano : ℤ = (axis.granularity *ℤ value) +ℤ axis.offset in
    let k = kept axis.most (int_div_euclid nano (pos 100)) unit e in
    let turned : (axis.granularity *ℤ value) +ℤ axis.offset ≡ axis.offset +ℤ (axis.granularity *ℤ value) = omega (arith, ints) in
    (subst (λ (u : ℤ). IsRoundedDown u (axis.offset +ℤ (axis.granularity *ℤ value))) k.0 (subst (λ (n : ℤ). IsRoundedDown (int_div_euclid nano (pos 100)) n) turned (floor nano)), k.1)
