use Rattle.std.proofs.Common.{◌≡◌, ℕ, ◌<◌, ◌≤◌, length, get_or}
use Rattle.script_service.specs.Actors.{Acting, IsTaught}
use Rattle.script_service.proofs.threads.share.Given as goal

abbrev pub invariant-loop-place : goal.invariant-loop-place
invariant-loop-place g l = record {
  service : l.service ≡ l.fn.service;
  len : length l.actors ≡ length l.fn.actors;
  done : (k : ℕ) (d : Acting) → k < l.place → IsTaught l.fn.service (get_or l.fn.actors k d) (get_or l.actors k d);
  rest : (k : ℕ) (d : Acting) → l.place ≤ k → get_or l.actors k d ≡ get_or l.fn.actors k d;
}
