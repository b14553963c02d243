use Rattle.std.proofs.Common.{◌+◌, ◌*◌, arith}
use Rattle.generated_run.proofs.Runs.{all_drawn, run_is, script_here}
use Rattle.generated_run.proofs.running.summary_of.Goals as goal

pub map_of-requires-clause-draws : goal.map_of-requires-clause-draws
map_of-requires-clause-draws g c = (all_drawn c.args.size (2 * c.args.size + 40) _ c.deref.result.now c.in_ok-draws.ensures c.deref.ensures.value).0

pub map_of-requires-clause-enough : goal.map_of-requires-clause-enough
map_of-requires-clause-enough g c = omega (arith, (all_drawn c.args.size (2 * c.args.size + 40) _ c.deref.result.now c.in_ok-draws.ensures c.deref.ensures.value).1)

pub script_of-requires-clause-draws : goal.script_of-requires-clause-draws
script_of-requires-clause-draws g c = (all_drawn c.args.size (2 * c.args.size + 40) _ c.deref-2.result.now c.in_ok-draws.ensures c.deref-2.ensures.value).0

pub script_of-requires-clause-enough : goal.script_of-requires-clause-enough
script_of-requires-clause-enough g c = omega (arith, (all_drawn c.args.size (2 * c.args.size + 40) _ c.deref-2.result.now c.in_ok-draws.ensures c.deref-2.ensures.value).1)

pub answer_script-requires-after_bounds : goal.answer_script-requires-after_bounds
answer_script-requires-after_bounds g c κs within =
    script_here c.args.size c.edge_count-edges.result c.in_ok-script.script c.in_ok-profiles.field-0 c.in_ok-ground.ground c.in_ok-roads.roads.graph.lists c.in_ok-roads.roads.ids
    c.in_ok-script.ensures c.in_ok-ground.ensures c.in_ok-profiles.ensures.profiles

pub returns : goal.returns
returns g c =
    run_is c.args.size c.in_ok-roads.roads.graph.lists c.in_ok-roads.roads.ids c.in_ok-profiles.field-0 c.in_ok-ground.ground c.in_ok-script.script c.in_ok-answers.answers c.summary_by.result
    c.node_count-nodes.result c.edge_count-edges.result c.deref-3.result.now c.in_ok-ground.ensures c.in_ok-profiles.ensures.profiles c.in_ok-roads.ensures.roads
    c.node_count-nodes.ensures c.edge_count-edges.ensures c.in_ok-script.ensures c.in_ok-answers.ensures c.deref-3.ensures.value c.summary_by.ensures
