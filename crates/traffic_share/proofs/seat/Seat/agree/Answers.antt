use Rattle.std.proofs.Common.{sym, ap, arith, ◌∙◌}
use Rattle.traffic_share.proofs.NotesOfCells.{same_cell}
use Rattle.traffic_share.proofs.seat.Seat.agree.Goals as goal

pub compare-requires : goal.compare-requires
compare-requires g c =
    let one = ap (λ p. p.cells) c.self.view_is ∙ c.requires.cells ∙ sym (ap (λ p. p.cells) c.other.view_is) in
    ap (λ n. n.cell) c.again-theirs.ensures.1
    ∙ same_cell _ _ _ _ _ _ _ _ _ c.self.invariant.0 c.other.invariant.0 one (grind arith) c.index_mut-2.ensures.value c.index_mut.ensures.value
