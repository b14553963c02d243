use Rattle.turn_routes.specs.Weighed.{roads_are_over}
use Rattle.turn_routes.proofs.laws.weighed_roads_are_over.Goals as goal

pub returns : goal.returns
returns c = λ rule limits graph facts. roads_are_over rule limits graph facts
