use Rattle.std.proofs.Common.{rules, ◌-◌, length, subst, sym, ◌∙◌, List, ℕ, arith}
use Rattle.std.specs.Io.KnownBytes.{Consumes}
use Rattle.prep_store.proofs.Bytes.{written_behind, part_kept}
use Rattle.prep_store.proofs.Telling.{consumed_more}
use Rattle.prep_store.proofs.units.fill.Goals as goal

pub pieces-preserved : goal.pieces-preserved
pieces-preserved g c =
    let i = c.pieces.invariant in
    let kept = part_kept c.pieces.done c.pieces.buf c.take.new.buf i.place c.take.auto.buf in
    let moved = c.in_ok-count.ensures in
    record {
      taken = subst (λ (bs : List ℕ). Consumes (g.S.Source.left c.args.source.now) (g.S.Source.left c.take.new.self) bs)
          (sym (written_behind c.pieces.done c.in_ok-count.count (length c.pieces.buf - c.pieces.done) c.pieces.buf c.take.new.buf i.place moved.bound.0))
          (consumed_more _ _ _ _ _ i.taken moved.bytes.0);
      place = omega (arith, kept.0, kept.1, moved.bound.0, i.place);
      long = kept.1 ∙ i.long;
      small = λ k. let f = c.type_inv.buf k in search rules;
      later = omega (arith, i.later, c.take.ensures.cause.later);
      mark = c.take.ensures.mark ∙ i.mark;
    }
