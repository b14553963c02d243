use Rattle.std.proofs.Common.{[], inl, inr, refl}
use Rattle.prep_store.specs.declared.fault.PrepFault.TheVariants as faults
use Rattle.prep_store.proofs.Lookups.{no_some}
use Rattle.prep_store.proofs.Telling.{fails_as, fails_at}
use Rattle.prep_store.proofs.placing.refuse_landmarks.Goals as goal

pub returns-in-Ok : goal.returns-in-Ok
returns-in-Ok g c = λ count some. fails_at (faults.Landmarks 0) c.in-Ok.ensures.number refl (λ total rest after e. record {
  right = [];
  after = rest;
  bytes = refl;
  fewer = some;
  by_rule = λ place node none. no_some none;
  fails = inr (c.in-Ok.field-0, c.in-Ok.ensures.word, λ x. x, (after, e, refl));
})

pub returns-in-Err : goal.returns-in-Err
returns-in-Err g c = λ count some. fails_as c.in-Err.ensures.fails (λ total rest f. record { right = []; after = rest; bytes = refl; fewer = some; by_rule = λ place node none. no_some none; fails = inl f })
