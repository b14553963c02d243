use Rattle.std.proofs.Common.{ℕ, ◌/◌, ◌%◌, ◌^◌, ◌<◌, sym, ap, ◌∙◌, subst, arith}
use Rattle.value_plan.proofs.Bits.{made, with_bits_fits, bits_there, bits_above, bits_below}
use Rattle.value_plan.proofs.numbers.with_value.Goals as goal

pub overflow_add-result : goal.overflow_add-result
overflow_add-result c =
    let fits : c.from.result < 2 ^ c.args.bits = rw c.from.ensures c.requires.fits in
    let number : c.args.number < 2 ^ 128 = omega arith in
    record { fits = subst (λ (m : ℕ). m < 2 ^ 128) (sym (made c.args.number c.args.at c.args.bits c.from.result (omega arith) fits c.requires.inside)) (with_bits_fits c.args.number c.args.at c.args.bits c.from.result fits c.requires.inside number) }

pub returns-clause-value : goal.returns-clause-value
returns-clause-value c =
    let fits : c.from.result < 2 ^ c.args.bits = rw c.from.ensures c.requires.fits in
    ap (λ (m : ℕ). m / 2 ^ c.args.at % 2 ^ c.args.bits) (made c.args.number c.args.at c.args.bits c.from.result (omega arith) fits c.requires.inside)
    ∙ (bits_there c.args.number c.args.at c.args.bits c.from.result fits ∙ c.from.ensures)

pub returns-clause-above : goal.returns-clause-above
returns-clause-above c =
    let fits : c.from.result < 2 ^ c.args.bits = rw c.from.ensures c.requires.fits in
    ap (λ (m : ℕ). m / 2 ^ c.args.at / 2 ^ c.args.bits) (made c.args.number c.args.at c.args.bits c.from.result (omega arith) fits c.requires.inside)
    ∙ bits_above c.args.number c.args.at c.args.bits c.from.result fits

pub returns-clause-below : goal.returns-clause-below
returns-clause-below c =
    let fits : c.from.result < 2 ^ c.args.bits = rw c.from.ensures c.requires.fits in
    ap (λ (m : ℕ). m % 2 ^ c.args.at) (made c.args.number c.args.at c.args.bits c.from.result (omega arith) fits c.requires.inside)
    ∙ bits_below c.args.number c.args.at c.args.bits c.from.result
