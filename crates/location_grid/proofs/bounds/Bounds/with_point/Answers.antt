use Rattle.std.proofs.Common.{arith}
use Rattle.std.proofs.lemmas.Int.{ints, clamps}
use Rattle.location_grid.proofs.bounds.Bounds.with_point.Goals as goal

pub returns-clause-earth : goal.returns-clause-earth
returns-clause-earth c = record {
  south = omega (arith, ints, clamps);
  north = omega (arith, ints, clamps);
  west = omega (arith, ints, clamps);
  east = omega (arith, ints, clamps);
}

pub returns-clause-point : goal.returns-clause-point
returns-clause-point c = record {
  south = omega (arith, ints, clamps);
  north = omega (arith, ints, clamps);
  west = omega (arith, ints, clamps);
  east = omega (arith, ints, clamps);
}
