use Rattle.std.proofs.Common.{All, ◌≡◌, [], length}
use Rattle.script_service.specs.Actors.{Acting, AreSeated, Know}
use Rattle.script_service.proofs.serving.seat_actors.Given as goal

abbrev pub invariant-loop-actor : goal.invariant-loop-actor
invariant-loop-actor g l = record {
  len : length l.seats.items ≡ l.actor;
  seated : AreSeated l.service l.seats.items;
  first : All (λ (a : Acting). a.seat.last ≡ 0) l.seats.items;
  none : Know g.J.Naming.land [] [] l.seats.items;
}
