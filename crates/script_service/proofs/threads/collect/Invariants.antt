use Rattle.std.proofs.Common.{◌≡◌, ℕ, ◌<◌, get_or}
use Rattle.traffic_share.specs.Seats.{HasSameSeat, StartsWith}
use Rattle.script_service.specs.Actors.{Acting}
use Rattle.script_service.proofs.threads.collect.Given as goal

abbrev pub invariant-loop-place : goal.invariant-loop-place
invariant-loop-place g l = record {
  actors : l.actors ≡ l.fn.actors;
  same : HasSameSeat l.fn.service l.service;
  longer : StartsWith l.service.entries l.fn.service.entries;
  each : (k : ℕ) (d : Acting) → k < l.place → StartsWith l.service.entries (get_or l.fn.actors k d).seat.entries;
}
