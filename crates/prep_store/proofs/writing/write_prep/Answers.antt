use Rattle.std.proofs.Common.{◌≡◌, ◌∙◌, List, ℕ, sym, subst}
use Rattle.std.proofs.lemmas.Result.{on_ok_weaker, on_err_weaker}
use Rattle.plain_map.proofs.Sent.{on_err}
use Rattle.gh_base.specs.Causes.{AppendsFront}
use Rattle.prep_store.specs.Ordering.{front_text, IsGiven, IsCutOff}
use Rattle.prep_store.proofs.Listings.{same_one, both_given, first_cut, second_cut}
use Rattle.prep_store.proofs.Whole.{store_of, text_of}
use Rattle.prep_store.proofs.writing.write_prep.Goals as goal

pub returns-in_err-give_all-clause-err : goal.returns-in_err-give_all-clause-err
returns-in_err-give_all-clause-err g c =
    let old = g.K.Sink.held c.args.sink.now in
    let new = g.K.Sink.held c.give_all.new.out in
    let front : c.deref.result.now ≡ front_text c.args.ground.now c.args.prep.now = c.deref.ensures.value ∙ c.in_ok-bytes.ensures in
    let cut : IsCutOff (λ t. t ≡ front_text c.args.ground.now c.args.prep.now) old new = record { front = λ text e. subst (λ (t : List ℕ). AppendsFront old new t) (front ∙ sym e) c.in_err-give_all.ensures.err } in
    on_err c.from_residual-in_err-give_all.result (λ text store. (first_cut cut).front text (text_of c.args.ground.now c.args.prep.now text store))

pub returns-clause-ok : goal.returns-clause-ok
returns-clause-ok g c =
    let front : c.deref.result.now ≡ front_text c.args.ground.now c.args.prep.now = c.deref.ensures.value ∙ c.in_ok-bytes.ensures in
    on_ok_weaker c.give_roads.result (λ lists.
    let both = both_given (record { text = c.deref.result.now; so = front; given = c.in_ok-give_all.ensures.ok }) lists in
    (both.text, store_of c.args.ground.now c.args.prep.now both.text both.so, both.given)) c.give_roads.ensures.ok

pub returns-clause-err : goal.returns-clause-err
returns-clause-err g c =
    let land = c.args.ground.now in
    let prep = c.args.prep.now in
    let front : c.deref.result.now ≡ front_text land prep = c.deref.ensures.value ∙ c.in_ok-bytes.ensures in
    let given : IsGiven (λ t. t ≡ front_text land prep) (g.K.Sink.held c.args.sink.now) (g.K.Sink.held c.give_all.new.out) = record { text = c.deref.result.now; so = front; given = c.in_ok-give_all.ensures.ok } in
    on_err_weaker c.give_roads.result (λ cut text store. (second_cut (same_one (front_text land prep)) given cut).front text (text_of land prep text store)) c.give_roads.ensures.err
