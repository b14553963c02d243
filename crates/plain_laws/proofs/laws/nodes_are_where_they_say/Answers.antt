use Rattle.plain_laws.proofs.NodeLines.{where_they_say}
use Rattle.plain_laws.proofs.laws.nodes_are_where_they_say.Goals as goal

pub returns : goal.returns
returns c = where_they_say
