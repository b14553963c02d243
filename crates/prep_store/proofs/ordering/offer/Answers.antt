use Rattle.std.proofs.Common.{refl, sym, ap, ◌∙◌, inl, ℕ, Some}
use Rattle.std.specs.Prelude.{slice_set}
use Rattle.prep_store.proofs.Candidates.{no_some_test}
use Rattle.prep_store.proofs.ordering.offer.Goals as goal

pub returns-then-has : goal.returns-then-has
returns-then-has c = inl (record {
  item = record { node = c.args.hop.to; label = c.label_after.result };
  gives = record { leads = refl; weight = c.in-Some.weight; weighs = c.in-Some.is; gives = c.label_after.ensures };
  label = c.has.ensures.0 c.if-has.true;
  new = sym c.label.ensures ∙ no_some_test c.label.result (sym c.is_some.ensures ∙ c.if-is_some.false);
  keys_are = c.put.ensures ∙ ap (λ (k : ℕ). slice_set c.args.queue.now c.args.hop.to.0 (Some k)) c.key_of-then-has.ensures;
})
