use Rattle.std.proofs.Common.{◌≡◌, ◌-◌, ◌<◌, ◌≤◌, ℕ, Option, List, [], ◌∷◌, ◌++◌, length, map}
use Rattle.gh_base.specs.declared.edges.NodeId.{NodeId}
use Rattle.landmark_choice.specs.Farthest.{AreNear, AreFarthest, distance_at}
use Rattle.landmark_choice.proofs.farthest.choose.Given as goal

-- what is chosen so far, and how far each node is from all of it but the last
abbrev pub invariant-more : goal.invariant-more
invariant-more g l = record {
  long : length l.near.items ≡ (g.V.RoadView.network l.view).nodes;
  few : length l.landmarks ≤ l.count;
  last : l.last.0 < (g.V.RoadView.network l.view).nodes;
  near : (next : ℕ → Option ℕ) →
      ((sources : List ℕ) → AreNear (g.V.RoadView.network l.view) sources (distance_at l.near.items) → AreNear (g.V.RoadView.network l.view) (sources ++ l.last.0 ∷ []) next) →
      AreNear (g.V.RoadView.network l.view) (map (λ (node : NodeId). node.0) l.landmarks) next;
  each : AreFarthest (g.V.RoadView.network l.view) l.fn.start.0 (map (λ (node : NodeId). node.0) l.landmarks);
}

abbrev pub decreases-more : goal.decreases-more
decreases-more g l = l.count - length l.landmarks
