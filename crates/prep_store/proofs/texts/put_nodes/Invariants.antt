use Rattle.std.proofs.Common.{◌≡◌, ◌++◌, drop, map}
use Rattle.gh_base.specs.declared.edges.NodeId.{NodeId}
use Rattle.prep_store.specs.Stores.{words}
use Rattle.prep_store.proofs.texts.put_nodes.Given as goal

-- what is left to append
abbrev pub invariant-loop-node : goal.invariant-loop-node
invariant-loop-node l = l.out.items ++ words (map (λ (n : NodeId). n.0) (drop l.node-index l.nodes)) ≡ l.fn.out.items ++ words (map (λ (n : NodeId). n.0) l.nodes)
