use Rattle.std.proofs.Common.{◌≡◌, ◌∙◌, ◌+◌, ◌-◌, ◌++◌, ap, sym, append_assoc, append-nil, arith}
use Rattle.plain_map.proofs.Digits.{places_none, places_more, some_power, some_place, digit_small, rest_small}
use Rattle.plain_map.proofs.texts.push_places.Goals as goal

pub nonzero_div-left : goal.nonzero_div-left
nonzero_div-left c = rw c.pow-unit.ensures (some_power (c.digits.places - 1))

pub nonzero_rem-left : goal.nonzero_rem-left
nonzero_rem-left c = rw c.pow-unit.ensures (some_power (c.digits.places - 1))

pub overflow_cast-left : goal.overflow_cast-left
overflow_cast-left c = rw c.pow-unit.ensures (omega (arith, digit_small c.digits.places (c.digits.places - 1) c.digits.left (some_place c.digits.places c.digits.left c.digits-test.true c.digits.invariant.small) c.digits.invariant.small))

pub overflow_add-left : goal.overflow_add-left
overflow_add-left c = rw c.pow-unit.ensures (omega (arith, digit_small c.digits.places (c.digits.places - 1) c.digits.left (some_place c.digits.places c.digits.left c.digits-test.true c.digits.invariant.small) c.digits.invariant.small))

pub digits-preserved : goal.digits-preserved
digits-preserved c =
    let unit = c.pow-unit.ensures in
    let some : c.digits.places ≡ c.digits.places - 1 + 1 = some_place c.digits.places c.digits.left c.digits-test.true c.digits.invariant.small in
    let more = places_more c.digits.places (c.digits.places - 1) c.digits.left some c.digits-test.true in
    record {
      small = rw unit (rest_small c.digits.places (c.digits.places - 1) c.digits.left some);
      few = omega arith;
      written = rw (c.in_ok-push.ensures.items, unit) (append_assoc c.digits.out.items _ _ ∙ ap (λ l. c.digits.out.items ++ l) (sym more) ∙ c.digits.invariant.written);
    }

pub returns : goal.returns
returns c =
    let none = places_none c.digits.places c.digits.left (omega arith) in
    sym (append-nil c.digits.out.items) ∙ ap (λ l. c.digits.out.items ++ l) (sym none) ∙ c.digits.invariant.written
