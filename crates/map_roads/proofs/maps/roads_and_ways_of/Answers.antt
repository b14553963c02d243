use Rattle.map_import.specs.Building.{laid_as}
use Rattle.map_roads.proofs.maps.roads_and_ways_of.Goals as goal

pub returns-in-Ok-ways_of_edges-clause-many : goal.returns-in-Ok-ways_of_edges-clause-many
returns-in-Ok-ways_of_edges-clause-many c = c.in-Ok-ways_of_edges.ensures.many (laid_as c.in-Ok.roads.ids c.in-Ok.roads.graph.lists) c.in-Ok.ensures.roads.laid
