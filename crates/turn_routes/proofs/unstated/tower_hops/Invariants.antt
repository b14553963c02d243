use Rattle.std.proofs.Common.{◌≡◌, take, map}
use Rattle.turn_routes.specs.Unstated.{tower_hop}
use Rattle.turn_routes.proofs.unstated.tower_hops.Given as goal

-- those so far
abbrev pub invariant-loop-hop : goal.invariant-loop-hop
invariant-loop-hop l = l.out ≡ map (tower_hop l.graph.lists) (take l.hop-index l.most)
