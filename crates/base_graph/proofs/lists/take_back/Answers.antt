use Rattle.base_graph.proofs.Undone.{undone}
use Rattle.base_graph.proofs.lists.take_back.Goals as goal

pub returns : goal.returns
returns c before by h e =
    undone before _ _ _ by _ _ _ h e c.index_mut-list.ensures.value c.list.view_is c.list.inside.edges.ok.0 c.pop.ensures.rest
