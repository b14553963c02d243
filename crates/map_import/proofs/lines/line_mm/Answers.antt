use Rattle.std.proofs.Common.{◌≡◌, arith, ap}
use Rattle.std.proofs.lemmas.List.{nil_from_length}
use Rattle.geo_math.specs.Lengths.{line_length}
use Rattle.map_import.proofs.lines.line_mm.Goals as goal

pub returns : goal.returns
returns c =
    let end : line_length c.loop-left.left.now ≡ 0 = ap line_length (nil_from_length c.loop-left.left.now (omega arith)) in
    let whole = c.loop-left.invariant.0 in
    let small = c.loop-left.invariant.2 in
    omega arith
