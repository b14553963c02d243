use Rattle.std.proofs.Common.{◌≡◌, ℕ, ◌+◌, ◌*◌, inl, inr, get_or, sym, ap, ◌∙◌, arith}
use Rattle.std.proofs.lemmas.Bool.{cases_lt}
use Rattle.data_access.specs.Bytes.{u32_at}
use Rattle.segment_graph.proofs.Wording.{length-bytes_with}
use Rattle.segment_graph.proofs.word_list.put_words.Goals as goal

pub loop-k-preserved : goal.loop-k-preserved
loop-k-preserved c =
    let new = c.set_u32.new.self in
    let from = c.args.from in
    record {
      len = length-bytes_with c.loop-k.bytes new (4 * (from + c.loop-k.k)) _ c.set_u32.ensures.bytes (omega arith) ∙ c.loop-k.invariant.len;
      row = λ j l. elim (cases_lt j c.loop-k.k) [
        | inl before ↦ c.set_u32.ensures.others (4 * (from + j)) (inl (omega arith)) ∙ c.loop-k.invariant.row j before
        | inr last ↦
            let here : j ≡ c.loop-k.k = omega arith in
            ap (λ (i : ℕ). u32_at new (4 * (from + i))) here ∙ (c.set_u32.ensures.read ∙ ap (λ (i : ℕ). get_or c.args.row.now i 0) (sym here))
      ];
      before = λ j l. c.set_u32.ensures.others (4 * j) (inl (omega arith)) ∙ c.loop-k.invariant.before j l;
    }
