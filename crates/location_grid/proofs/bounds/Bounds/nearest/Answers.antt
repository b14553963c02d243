use Rattle.std.proofs.Common.{◌≡◌, arith}
use Rattle.std.specs.Int.{w32, cast_signed, cast_unsigned, int_min, int_max}
use Rattle.std.proofs.lemmas.Int.{ints, clamps}
use Rattle.location_grid.specs.Boxes.{nearest_in}
use Rattle.location_grid.proofs.bounds.Bounds.nearest.Goals as goal

pub returns-clause-value : goal.returns-clause-value
unfolding nearest_in
returns-clause-value c =
    let lat : cast_signed w32 (cast_unsigned w32 c.min.result) ≡ int_min (int_max c.args.point.lat c.args.self.south) c.args.self.north = omega (arith, ints, clamps) in
    let lon : cast_signed w32 (cast_unsigned w32 c.min-2.result) ≡ int_min (int_max c.args.point.lon c.args.self.west) c.args.self.east = omega (arith, ints, clamps) in
    cc

pub returns-clause-on_earth : goal.returns-clause-on_earth
returns-clause-on_earth c = record {
  south = omega (arith, ints, clamps);
  north = omega (arith, ints, clamps);
  west = omega (arith, ints, clamps);
  east = omega (arith, ints, clamps);
}
