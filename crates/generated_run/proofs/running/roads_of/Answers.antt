use Rattle.map_import.specs.Building.{laid_as}
use Rattle.generated_run.proofs.Runs.{edge_count, only_memory}
use Rattle.generated_run.proofs.running.roads_of.Goals as goal

pub want_of_memory-requires : goal.want_of_memory-requires
want_of_memory-requires c = only_memory c.args.size c.args.map.now c.in-Err.fault c.requires.two c.requires.few c.requires.map c.in-Err.ensures.refused

pub returns-in-Ok-clause-edges : goal.returns-in-Ok-clause-edges
returns-in-Ok-clause-edges c = edge_count c.args.size c.args.map.now (laid_as c.in-Ok.roads.ids c.in-Ok.roads.graph.lists) c.requires.two c.requires.few c.requires.map c.in-Ok.ensures.roads
