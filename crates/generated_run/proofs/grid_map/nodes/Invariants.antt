use Rattle.std.proofs.Common.{◌≡◌, map, All}
use Rattle.std.specs.List.{range_with_len}
use Rattle.gh_base.specs.declared.map.OsmNode.{OsmNode}
use Rattle.gh_base.specs.Places.{IsOnEarth}
use Rattle.generated_run.specs.Maps.{node_at}
use Rattle.generated_run.proofs.grid_map.nodes.Given as goal

abbrev pub invariant-loop-n : goal.invariant-loop-n
invariant-loop-n l = record {
  nodes : l.nodes ≡ map (node_at l.size) (range_with_len 0 l.n);
  on_earth : All (λ (node : OsmNode). IsOnEarth node.place) l.nodes;
}
