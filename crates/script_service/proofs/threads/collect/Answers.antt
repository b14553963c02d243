use Rattle.std.proofs.Common.{ℕ, ◌<◌, length, get_or, arith, ap, subst, List}
use Rattle.std.proofs.lemmas.Grind.{common_steps}
use borrow.Author.Count.{below_more}
use Rattle.traffic_core.specs.declared.entry.Entry.{Entry}
use Rattle.traffic_share.specs.Seats.{StartsWith}
use Rattle.script_service.specs.Actors.{Acting}
use Rattle.script_service.proofs.SeatsBack.{actor_back, actor_at}
use Rattle.script_service.proofs.CommandMore.{starts_trans}
use Rattle.script_service.proofs.threads.collect.Goals as goal

pub loop-place-preserved : goal.loop-place-preserved
loop-place-preserved g c =
    let actors = c.args.actors.now in
    let list = c.teach.new.service.entries in
    let P : ℕ → Type 0 = λ k. (d : Acting) → StartsWith list (get_or actors k d).seat.entries in
    let here : c.loop-place.place < length actors = grind arith in
    record {
      actors = actor_back _ actors _ _ _ c.loop-place.invariant.actors c.teach.ensures.same;
      same = grind (arith, common_steps);
      longer = starts_trans _ _ _ c.loop-place.invariant.longer c.teach.ensures.longer;
      each = λ k d below. below_more P c.loop-place.place (λ j h d. starts_trans _ _ _ (c.loop-place.invariant.each j d h) c.teach.ensures.longer) (λ d. subst (λ (xs : List Entry). StartsWith list xs) (ap (λ (a : Acting). a.seat.entries) (actor_at _ actors _ _ d c.loop-place.invariant.actors here)) c.teach.ensures.theirs) k below d;
    }
