use Rattle.std.proofs.Common.{◌≡◌, ℕ, ◌<◌, ◌≤◌, ◌++◌, length, get_or, take}
use Rattle.script_service.specs.Actors.{Acting}
use Rattle.script_service.specs.Collecting.{HasHandedOver, heard_by}
use Rattle.script_service.proofs.collecting.hand_over.Given as goal

abbrev pub invariant-loop-place : goal.invariant-loop-place
invariant-loop-place g l = record {
  len : length l.actors ≡ length l.fn.actors;
  done : (k : ℕ) (d : Acting) → k < l.place → HasHandedOver (get_or l.fn.actors k d) (get_or l.actors k d);
  rest : (k : ℕ) (d : Acting) → l.place ≤ k → get_or l.actors k d ≡ get_or l.fn.actors k d;
  heard : l.heard.items ≡ l.fn.heard.items ++ heard_by (take l.place l.fn.actors);
}
