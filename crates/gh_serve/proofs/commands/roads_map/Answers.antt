use Rattle.gh_serve.proofs.LinesBehind.{all_behind, front_behind, part_behind}
use Rattle.gh_serve.proofs.commands.roads_map.Goals as goal

pub returns-in-Ok-write_roads-clause-done : goal.returns-in-Ok-write_roads-clause-done
returns-in-Ok-write_roads-clause-done g c = λ _. all_behind c.args.form _ _ _ c.in-Ok.read.roads c.in-Ok.read.ways c.in-Ok.ensures.map c.in-Ok-write_roads.ensures.ok

pub returns-in-Err-NoMemory-clause-part : goal.returns-in-Err-NoMemory-clause-part
returns-in-Err-NoMemory-clause-part g c = λ _. part_behind c.args.form _ _ _ c.in-Ok.read.roads c.in-Ok.read.ways c.in-Ok.ensures.map c.in-Err-NoMemory.ensures.err

pub returns-clause-front : goal.returns-clause-front
returns-clause-front g c = λ _. front_behind c.args.form _ _ _ c.in-Ok.read.roads c.in-Ok.read.ways c.in-Ok.ensures.map c.in-Err-WriteFault.ensures.err
