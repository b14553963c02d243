use Rattle.std.proofs.Common.{◌≡◌, ◌<◌, ℕ, false, IsTrue}
use Rattle.landmark_choice.specs.Grouping.{AreGrouped}
use Rattle.landmark_choice.specs.Parts.{HasOpenHop, IsBarred}
use Rattle.landmark_choice.proofs.parts.largest_part.Given as goal

-- the nodes up to here are joined
abbrev pub invariant-loop-node : goal.invariant-loop-node
invariant-loop-node g l = record {
  network : g.V.RoadView.network l.view ≡ g.V.RoadView.network l.out;
  starts : g.V.RoadView.starts l.view ≡ l.node;
  grouped : AreGrouped (g.V.RoadView.network l.out) l.above.items l.node ((g.V.RoadView.network l.out).hops l.node);
  barred : IsTrue l.is_barred → (one : ℕ) → one < l.node → IsBarred (g.V.RoadView.network l.out) one;
  some : l.is_barred ≡ false → (one : ℕ) × (one < (g.V.RoadView.network l.out).nodes) × HasOpenHop (g.V.RoadView.network l.out) one;
}
