use Rattle.std.proofs.Common.{◌≡◌, true, false, not, List, ℕ, ap, ◌∙◌, refl, inr}
use lib.Pointwise.{pointwise}
use lib.Dec.{eqb}
use Rattle.prep_store.specs.declared.fault.PrepFault.TheVariants as faults
use Rattle.prep_store.specs.Stores.{magic}
use Rattle.prep_store.proofs.Telling.{fails_at}
use Rattle.prep_store.proofs.Faulting.{no_store}
use Rattle.prep_store.proofs.head.read_magic.Goals as goal

pub returns-then-ne-clause-fails : goal.returns-then-ne-clause-fails
returns-then-ne-clause-fails g c =
    let buf = c.read_whole.new.buf in
    let other : buf ≡ magic → ⊥ = λ e.
    let same : c.as_slice.result.now ≡ magic = c.as_slice.ensures ∙ e in
    let bad : true ≡ false = c.if-ne.ensures ∙ ap (λ (xs : List ℕ). not (pointwise eqb xs magic)) same in
    absurd (cc) in
    fails_at faults.Magic c.in_ok-read_whole.ensures.taken refl (λ total rest after e. inr (no_store buf after rest c.read_whole.auto.buf other e))
