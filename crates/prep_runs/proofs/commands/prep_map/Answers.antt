use Rattle.prep_runs.proofs.CarRoads.{stored_behind, front_behind, part_behind, prep_says, prep_refused}
use Rattle.prep_runs.proofs.commands.prep_map.Goals as goal

pub returns-in-Err-clause-says : goal.returns-in-Err-clause-says
returns-in-Err-clause-says g c = prep_refused c.in-Err.status c.args.form _ c.args.count c.in-Err.ensures.early c.in-Err.ensures.labels

pub returns-clause-done : goal.returns-clause-done
returns-clause-done g c = λ e. stored_behind c.args.form c.args.count c.in-Ok.ground _ _ _ c.in-Ok.ensures.cars (c.write_store.ensures.done e)

pub returns-clause-says : goal.returns-clause-says
returns-clause-says g c =
    prep_says c.write_store.result c.args.form _ c.args.count c.in-Ok.ground c.in-Ok.ensures.cars c.in-Ok.ensures.few c.write_store.ensures.statuses c.write_store.ensures.none

pub returns-clause-front : goal.returns-clause-front
returns-clause-front g c = λ e. front_behind c.args.form c.args.count c.in-Ok.ground _ _ _ c.in-Ok.ensures.cars (c.write_store.ensures.front e)

pub returns-clause-part : goal.returns-clause-part
returns-clause-part g c = λ e. part_behind c.args.form c.args.count c.in-Ok.ground _ _ _ c.in-Ok.ensures.cars (c.write_store.ensures.part e)
