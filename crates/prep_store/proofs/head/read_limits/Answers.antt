use Rattle.std.proofs.Common.{◌<◌, ◌^◌, ◌*◌, ℕ, List, All, length, sym, subst, ap, ◌∙◌, arith}
use Rattle.std.proofs.lemmas.List.{length_push}
use Rattle.std.proofs.lemmas.List.Elements.{All-push}
use Rattle.prep_store.specs.Stores.{words}
use Rattle.prep_store.specs.FirstFaults.{IsCut}
use Rattle.prep_store.proofs.Telling.{taken_then, taken_as, out_of_memory, handed_on}
use Rattle.prep_store.proofs.Faulting.{word_cut, words_push, length-words}
use Rattle.prep_store.proofs.head.read_limits.Goals as goal

pub read_u32-requires : goal.read_u32-requires
read_u32-requires g c = let i = c.limits.invariant in omega (arith, i.taken.counted, length-words c.limits.limits, i.so_far, i.end, c.limits-test.true)

pub returns-in_err-read_u32-clause-fails : goal.returns-in_err-read_u32-clause-fails
returns-in_err-read_u32-clause-fails g c =
    let i = c.limits.invariant in
    handed_on (IsCut (8 * c.args.edges)) c.from_residual.result c.from_residual.ensures.1
    (word_cut (8 * c.args.edges) c.limits.limits i.taken (omega (arith, i.so_far, i.end, c.limits-test.true)) c.in_err-read_u32.ensures.fails)

pub returns-in_err-push-clause-fails : goal.returns-in_err-push-clause-fails
returns-in_err-push-clause-fails g c =
    handed_on (IsCut (8 * c.args.edges)) c.from_residual-in_err-push.result c.from_residual-in_err-push.ensures.1
    (out_of_memory (taken_then c.limits.invariant.taken c.in_ok-read_u32.ensures.number))

pub limits-preserved : goal.limits-preserved
limits-preserved g c =
    let i = c.limits.invariant in
    let n = c.in_ok-read_u32.field-0 in
    let read = c.in_ok-read_u32.ensures in
    let pushed = c.in_ok-push.ensures.ok in
    let small = λ (limit : ℕ). limit < 2 ^ 32 in
    record {
      taken = taken_as (sym (ap words pushed ∙ words_push c.limits.limits n)) (taken_then i.taken read.number);
      so_far = omega (arith, ap (λ (xs : List ℕ). length xs) pushed, length_push c.limits.limits n, i.so_far);
      end = i.end;
      each = subst (λ (xs : List ℕ). All small xs) (sym pushed) (All-push small c.limits.limits n i.each read.word);
    }
