use Rattle.std.specs.Prelude.{false}
use Rattle.std.proofs.lemmas.Result.{on_ok_weaker, on_err_weaker}
use Rattle.plain_map.proofs.Sent.{on_err}
use Rattle.prep_store.specs.Ordering.{told_label}
use Rattle.prep_store.proofs.Listings.{list_one, both_given, first_cut, second_cut}
use Rattle.prep_store.proofs.writing.give_pair.Goals as goal

pub returns-in_err-give_side-clause-err : goal.returns-in_err-give_side-clause-err
returns-in_err-give_side-clause-err g c = on_err c.from_residual.result (first_cut c.in_err-give_side.ensures.err)

pub returns-clause-ok : goal.returns-clause-ok
returns-clause-ok g c = on_ok_weaker c.give_side-2.result (λ to. both_given c.in_ok-give_side.ensures.ok to) c.give_side-2.ensures.ok

pub returns-clause-err : goal.returns-clause-err
returns-clause-err g c =
    on_err_weaker c.give_side-2.result (λ cut. second_cut (list_one (g.V.RoadView.network c.args.out.now) c.args.prep.now.grain c.args.landmark.0 (told_label c.args.prep.now c.args.place false)) c.in_ok-give_side.ensures.ok cut) c.give_side-2.ensures.err
