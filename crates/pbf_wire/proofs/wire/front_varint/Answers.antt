use Rattle.std.proofs.Common.{◌≡◌, ◌∷◌, ◌-◌, arith}
use Rattle.pbf_wire.proofs.Bytes.{last_byte}
use Rattle.pbf_wire.proofs.wire.front_varint.Goals as goal

pub returns-then-low-lt-GROUP-clause-value : goal.returns-then-low-lt-GROUP-clause-value
returns-then-low-lt-GROUP-clause-value c =
    let front : c.loop-size.rest.now ≡ c.from-low.result ∷ c.in-Some.more.now = cc c.in-Some.ensures.cases.0 in
    last_byte c.loop-size.value c.loop-size.weight c.from-low.result c.loop-size.size (10 - c.loop-size.size) c.loop-size.rest.now c.in-Some.more.now _ c.loop-size.invariant.read front (omega arith) (omega arith)
