use Rattle.std.proofs.Common.{ℕ, ◌+◌, ◌*◌, ◌^◌, ◌<◌, sym, ap, ◌∙◌, subst}
use Rattle.value_plan.proofs.Packing.{above_fits, in_128, moved, turned}
use Rattle.value_plan.proofs.packed.Packed.above.Goals as goal

pub overflow_add-result : goal.overflow_add-result
overflow_add-result c =
    let all = c.args.self in
    let fits : c.from.result < 2 ^ c.args.bits = rw c.from.ensures c.requires.fits in
    record {
      fits = subst (λ (n : ℕ). n + c.from.result < 2 ^ 128) (sym (moved all.number all.bits c.args.bits all.fits c.requires.room))
          (in_128 (all.number * 2 ^ c.args.bits + c.from.result) (all.bits + c.args.bits) (above_fits all.number c.from.result all.bits c.args.bits all.fits fits) c.requires.room);
    }

pub invariant_of-result : goal.invariant_of-result
invariant_of-result c =
    let all = c.args.self in
    let fits : c.from.result < 2 ^ c.args.bits = rw c.from.ensures c.requires.fits in
    record {
      fits = subst (λ (n : ℕ). n + c.from.result < 2 ^ (all.bits + c.args.bits)) (sym (moved all.number all.bits c.args.bits all.fits c.requires.room))
          (above_fits all.number c.from.result all.bits c.args.bits all.fits fits);
    }

pub returns-clause-number : goal.returns-clause-number
returns-clause-number c =
    let all = c.args.self in
    ap (λ (n : ℕ). n + c.from.result) (moved all.number all.bits c.args.bits all.fits c.requires.room)
    ∙ (ap (λ (n : ℕ). all.number * 2 ^ c.args.bits + n) c.from.ensures ∙ sym (turned c.args.value (2 ^ c.args.bits) all.number))
