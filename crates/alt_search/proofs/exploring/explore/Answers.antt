use Rattle.std.proofs.Common.{length, ap, ◌∙◌}
use Rattle.alt_search.proofs.Starts.{starts_once}
use Rattle.alt_search.proofs.Telling.{told_walk, tells_least, tells_same, same_places}
use Rattle.alt_search.proofs.exploring.explore.Goals as goal

pub after-requires : goal.after-requires
after-requires g c = same_places c.in_ok-end.end.at_target c.in_ok-end.ensures.done

pub returns-clause-once : goal.returns-clause-once
returns-clause-once g c = rw c.after.ensures.settled (starts_once c.in_ok-end.ensures.done.underway)

pub returns-clause-nodes : goal.returns-clause-nodes
returns-clause-nodes g c = ap length c.after.ensures.reached ∙ c.in_ok-end.ensures.done.underway.long_reached

pub returns-clause-walks : goal.returns-clause-walks
returns-clause-walks g c = λ node weight e. told_walk c.in_ok-end.ensures.done node weight (rw (c.after.ensures.reached, c.after.ensures.queue) at e)

pub returns-clause-least : goal.returns-clause-least
returns-clause-least g c = λ f. tells_same c.after.ensures.reached c.after.ensures.queue (tells_least c.in_ok-end.end.at_target c.in_ok-end.ensures.done f)
