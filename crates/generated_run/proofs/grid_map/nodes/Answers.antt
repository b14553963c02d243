use Rattle.std.proofs.Common.{All, List, sym, subst}
use Rattle.std.proofs.lemmas.List.Elements.{All-push}
use Rattle.gh_base.specs.declared.map.OsmNode.{OsmNode}
use Rattle.gh_base.specs.Places.{IsOnEarth}
use Rattle.generated_run.specs.Maps.{node_at}
use Rattle.generated_run.proofs.Counted.{pushed}
use Rattle.generated_run.proofs.grid_map.nodes.Goals as goal

pub loop-n-preserved : goal.loop-n-preserved
loop-n-preserved c =
    let more = c.in_ok-push.ensures.ok in
    let P : OsmNode → Type 0 = λ node. IsOnEarth node.place in
    record {
      nodes = pushed (node_at c.args.size) _ _ c.loop-n.n _ c.loop-n.invariant.nodes more c.node_at.ensures.node;
      on_earth = subst (λ (nodes : List OsmNode). All P nodes) (sym more) (All-push P _ _ c.loop-n.invariant.on_earth c.node_at.ensures.on_earth);
    }
