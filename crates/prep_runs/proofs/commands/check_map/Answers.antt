use Rattle.prep_runs.proofs.CarRoads.{checked_behind, checked_front, store_says}
use Rattle.prep_runs.proofs.commands.check_map.Goals as goal

pub returns-clause-done : goal.returns-clause-done
returns-clause-done g c = λ e. checked_behind c.args.form _ _ _ _ c.in-Ok.roads c.in-Ok.ensures.map (c.check_store.ensures.done e)

pub returns-clause-store : goal.returns-clause-store
returns-clause-store g c = store_says c.check_store.result c.args.form _ _ c.in-Ok.roads c.in-Ok.ensures.map c.check_store.ensures.says

pub returns-clause-front : goal.returns-clause-front
returns-clause-front g c = λ e. checked_front c.args.form _ _ _ _ c.in-Ok.roads c.in-Ok.ensures.map (c.check_store.ensures.front e)
