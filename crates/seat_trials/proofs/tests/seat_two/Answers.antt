use Rattle.std.proofs.Common.{◌<◌, ℕ, List, length, get_or, ap, ◌∙◌}
use Rattle.traffic_share.specs.Seats.{Place}
use Rattle.seat_trials.proofs.LastTwo.{last_two_taken}
use Rattle.seat_trials.proofs.tests.seat_two.Goals as goal

pub have_twenty-requires-after_bounds : goal.have_twenty-requires-after_bounds
have_twenty-requires-after_bounds g c κs within =
    last_two_taken (λ (s : Place). s.cells) _ c.lower_at_once.new.seats _ _ _ _ _ _
    (λ (i : ℕ) (d : Place) less.
    let here : i < length c.deref_mut.result.now = rw c.lower_at_once.ensures.len at less in
    c.lower_at_once.ensures.cells i d here ∙
    ap (λ (seats : List Place). (get_or seats i d).cells) c.deref_mut.ensures.value ∙
    c.in_ok-seats.ensures.cells i d (rw c.deref_mut.ensures.value at here))
    (c.lower_at_once.ensures.len ∙ c.deref_mut.ensures.len)
    c.in-Some-Some.ensures.items c.in-Some-Some.ensures'.items
