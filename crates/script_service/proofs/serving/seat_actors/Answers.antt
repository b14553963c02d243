use Rattle.std.proofs.Common.{ℕ, ◌≡◌, ◌∙◌, ap, sym, subst, arith, [], ◌∷◌, length, length-append}
use Rattle.traffic_share.specs.Seats.{Place}
use Rattle.script_service.specs.Actors.{Acting, IsSeated}
use Rattle.script_service.specs.Going.{Knowing, Knows}
use Rattle.script_service.proofs.PhaseReady.{ready_first}
use Rattle.script_service.proofs.SeatedActors.{each_push}
use Rattle.script_service.proofs.serving.seat_actors.Goals as goal

pub loop-actor-preserved : goal.loop-actor-preserved
loop-actor-preserved g c =
    let a : Acting = c.new-in-loop-actor-2.result in
    let seat = c.in_ok-seat.ensures in
    let seat_is = c.new-in-loop-actor-2.ensures.seat in
    let knows_is = c.new-in-loop-actor-2.ensures.knows in
    let before = c.loop-actor.invariant in
    let items = c.in_ok-push.ensures.items in
    let seated : IsSeated c.args.service.now c.loop-actor.actor a = record {
      cells = ap (λ (p : Place). p.cells) seat_is ∙ seat.cells ∙ sym c.requires.cells;
      actor = ap (λ (p : Place). p.actor) seat_is ∙ seat.actor;
      entries = ap (λ (p : Place). p.entries) seat_is ∙ seat.entries ∙ sym c.requires.nothing;
    } in
    record {
      len = ap length items ∙ omega (arith, length-append c.loop-actor.seats.items (a ∷ []), before.len);
      seated = each_push (IsSeated c.args.service.now) c.loop-actor.seats.items c.push.new.self.items a items before.seated (subst (λ (i : ℕ). IsSeated c.args.service.now i a) (sym before.len) seated);
      first = each_push (λ (i : ℕ) (b : Acting). b.seat.last ≡ 0) c.loop-actor.seats.items c.push.new.self.items a items before.first (ap (λ (p : Place). p.last) seat_is ∙ seat.last);
      none = each_push (λ (i : ℕ) (b : Acting). Knows g.J.Naming.land [] [] b.knows) c.loop-actor.seats.items c.push.new.self.items a items before.none
          (subst (λ (k : Knowing). Knows g.J.Naming.land [] [] k) (sym knows_is) (c.in_ok-memory.ensures []));
    }

pub returns-clause-ready : goal.returns-clause-ready
returns-clause-ready g c =
    let inv = c.loop-actor.invariant in
    let names = c.len-names.ensures in
    ready_first _ c.args.script.now c.args.service.now c.loop-actor.seats.items c.requires.script (ap length c.requires.cells ∙ c.requires.capacity) (omega (arith, inv.len)) inv.seated inv.first
