use Rattle.std.proofs.Common.{arith, sym, ap, ◌∙◌}
use Rattle.std.proofs.lemmas.Option.{get_or_from_slice_get}
use Rattle.traffic_share.proofs.NotesOfCells.{keeps_copied}
use Rattle.traffic_share.proofs.seat.Seat.copy_next.Goals as goal

pub invariant_of-self : goal.invariant_of-self
invariant_of-self g c =
    let one = ap (λ p. p.cells) c.self.view_is ∙ c.requires.cells ∙ sym (ap (λ p. p.cells) c.other.view_is) in
    rw c.take.ensures.entries (
      keeps_copied _ _ _ _ _ _ c.len-place.result c.again-note.result c.at-entry.result.now c.self.invariant.0 c.other.invariant.0 one (grind arith) (grind arith) (rw c.again-note.ensures.1 c.index_mut.ensures.value) (λ d. get_or_from_slice_get c.other.inside.replay.entries c.len-place.result c.at-entry.result.now d c.at-entry.ensures.is),
      c.take.ensures.room ∙ c.self.invariant.1,
    )
