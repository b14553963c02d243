use Rattle.std.specs.Prelude.{slice_get}
use Rattle.std.proofs.Common.{◌≡◌, Some, ℕ, take, refl, sym, ap, ◌∙◌, arith}
use Rattle.std.proofs.lemmas.List.{length-map}
use Rattle.gh_base.specs.declared.edges.NodeId.{NodeId}
use Rattle.prep_store.specs.Stores.{words}
use Rattle.prep_store.specs.FirstFaults.{FailsByRule}
use Rattle.prep_store.proofs.Telling.{taken_then, taken_as, handed_on}
use Rattle.prep_store.proofs.Faulting.{landmark_cut, landmark_other, take_next, get_of_take, words_push, length-words}
use Rattle.prep_store.proofs.Tables.{numbers, numbers_long}
use Rattle.prep_store.proofs.placing.check_landmarks.Goals as goal

pub read_u32-requires : goal.read_u32-requires
read_u32-requires g c =
    let i = c.landmarks.invariant in
    omega (arith, i.taken.counted, length-words (take c.landmarks.place (numbers c.args.right.now)), numbers_long c.args.right.now c.landmarks.place i.within, c.landmarks-test.true)

pub returns-in_err-number-clause-fails : goal.returns-in_err-number-clause-fails
returns-in_err-number-clause-fails g c =
    let i = c.landmarks.invariant in
    let right = numbers c.args.right.now in
    let Rule = λ (place node : ℕ). slice_get right place ≡ Some node in
    handed_on (FailsByRule Rule c.args.count) c.from_residual.result c.from_residual.ensures.1
    (landmark_cut Rule c.args.count (take c.landmarks.place right) (omega (arith, numbers_long c.args.right.now c.landmarks.place i.within, c.landmarks-test.true)) (λ p n e. get_of_take right c.landmarks.place p n e)
    i.taken c.in_err-number.ensures.fails)

pub returns-then-not-is_at-clause-fails : goal.returns-then-not-is_at-clause-fails
returns-then-not-is_at-clause-fails g c =
    let i = c.landmarks.invariant in
    let right = numbers c.args.right.now in
    let long = numbers_long c.args.right.now c.landmarks.place i.within in
    let Rule = λ (place node : ℕ). slice_get right place ≡ Some node in
    let read = c.in_ok-number.ensures in
    let other : Rule c.landmarks.place c.in_ok-number.number → ⊥ = λ e. let t = c.if-not-is_at.ensures.1 e in absurd (cc) in
    landmark_other Rule c.args.count (take c.landmarks.place right) (omega (arith, long, c.landmarks-test.true)) (λ p n e. get_of_take right c.landmarks.place p n e)
    c.landmarks.place c.in_ok-number.number long i.taken read.number read.word other

pub landmarks-preserved : goal.landmarks-preserved
landmarks-preserved g c =
    let i = c.landmarks.invariant in
    let right = numbers c.args.right.now in
    let n = c.in_ok-number.number in
    let next = take_next right c.landmarks.place n (c.if-not-is_at.ensures.0 refl) in
    record {
      taken = taken_as (sym (ap words next.0 ∙ words_push (take c.landmarks.place right) n)) (taken_then i.taken c.in_ok-number.ensures.number);
      within = omega (arith, next.1, length-map c.args.right.now (λ (node : NodeId). node.0));
    }
