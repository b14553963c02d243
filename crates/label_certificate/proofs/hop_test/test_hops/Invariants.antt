use Rattle.std.proofs.Common.{◌≡◌, ◌+◌, ◌<◌, ℕ, false, List, ◌++◌, length, Contains}
use Rattle.gh_base.specs.declared.edges.Hop.{Hop}
use Rattle.walk_rules.specs.Walks.{hops_from}
use Rattle.label_certificate.proofs.hop_test.test_hops.Given as goal

-- the test failed at no hop of the nodes before, and at none of this node's that were given
abbrev pub invariant-loop-hop : goal.invariant-loop-hop
invariant-loop-hop g l =
    let network = g.V.RoadView.network l.fn.view in
    record {
      same : g.V.RoadView.network l.view ≡ network;
      starts : g.V.RoadView.starts l.view ≡ g.V.RoadView.starts l.fn.view + (l.node + 1);
      before : (node : ℕ) (hop : Hop) → node < l.node → Contains (hops_from network node) hop → g.T.HopTest.fails l.test node hop ≡ false;
      earlier : (hops : List Hop) × (hops_from network l.node ≡ hops ++ g.V.RoadView.left l.view) × ((hop : Hop) → Contains hops hop → g.T.HopTest.fails l.test l.node hop ≡ false);
    }

abbrev pub decreases-loop-hop : goal.decreases-loop-hop
decreases-loop-hop g l = length (g.V.RoadView.left l.view)

-- the test failed at no hop of the nodes so far
abbrev pub invariant-loop-node : goal.invariant-loop-node
invariant-loop-node g l =
    let network = g.V.RoadView.network l.fn.view in
    record {
      same : g.V.RoadView.network l.view ≡ network;
      starts : g.V.RoadView.starts l.view ≡ g.V.RoadView.starts l.fn.view + l.node;
      end : l.node-end ≡ network.nodes;
      before : (node : ℕ) (hop : Hop) → node < l.node → Contains (hops_from network node) hop → g.T.HopTest.fails l.test node hop ≡ false;
    }
