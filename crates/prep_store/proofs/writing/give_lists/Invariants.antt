use Rattle.std.proofs.Common.{◌≤◌, ℕ, List}
use Rattle.std.specs.Io.KnownBytes.{Appends}
use Rattle.prep_store.proofs.Listings.{AreSoFar}
use Rattle.prep_store.proofs.writing.give_lists.Given as goal

-- the lists of the landmarks so far are given
abbrev pub invariant-places : goal.invariant-places
invariant-places g l = record {
  given : (front : List ℕ) × AreSoFar (g.V.RoadView.network l.out) (g.W.RoadView.network l.back) l.prep.grain l.prep.landmarks l.prep.labels l.place front × Appends (g.K.Sink.held l.fn.sink) (g.K.Sink.held l.sink) front;
  later : g.K.Sink.faults l.fn.sink ≤ g.K.Sink.faults l.sink;
}
