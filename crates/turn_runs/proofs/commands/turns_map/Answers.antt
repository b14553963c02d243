use Rattle.map_roads.specs.Opening.{guide_of}
use Rattle.map_roads.proofs.Counted.{map_read, few_read, map_counted, labels_counted}
use Rattle.query_lines.specs.Answering.{IsAnswered}
use Rattle.query_lines.proofs.OverMaps.{map_said, labels_said, over_map, front_over_map}
use Rattle.turn_runs.specs.Lines.{IsLineOf}
use Rattle.turn_runs.specs.Runs.{IsTurnText}
use Rattle.turn_runs.proofs.Told.{AreOfMap, roads_read, turn_roads, turn_text}
use Rattle.turn_runs.proofs.commands.turns_map.Goals as goal

pub returns-in-Err-cars_of-clause-map : goal.returns-in-Err-cars_of-clause-map
returns-in-Err-cars_of-clause-map g c =
    let map = c.in-Ok.map in
    map_counted c.args.form map.roads c.args.count _ (roads_read c.args.form map.roads map.ways map.turns _ c.in-Ok.ensures.map) c.in-Err-cars_of.status c.in-Err-cars_of.ensures.many

pub returns-in-Err-cars_of-clause-labels : goal.returns-in-Err-cars_of-clause-labels
returns-in-Err-cars_of-clause-labels g c =
    let map = c.in-Ok.map in
    labels_counted c.args.form map.roads c.args.count _ (roads_read c.args.form map.roads map.ways map.turns _ c.in-Ok.ensures.map) c.in-Err-cars_of.status c.in-Err-cars_of.ensures.many

pub returns-clause-map : goal.returns-clause-map
returns-clause-map g c =
    let map = c.in-Ok.map in
    map_said c.args.form _ (map_read c.args.form map.roads _ (roads_read c.args.form map.roads map.ways map.turns _ c.in-Ok.ensures.map)) c.answer_lines.result c.answer_lines.ensures.statuses

pub returns-clause-labels : goal.returns-clause-labels
returns-clause-labels g c =
    let map = c.in-Ok.map in
    labels_said c.args.form c.args.count _
    (few_read c.args.form map.roads c.args.count _ (roads_read c.args.form map.roads map.ways map.turns _ c.in-Ok.ensures.map) c.in-Ok-cars_of.ensures.few)
    c.answer_lines.result c.answer_lines.ensures.statuses

pub returns-clause-done : goal.returns-clause-done
returns-clause-done g c = λ e.
    let map = c.in-Ok.map in
    let form = c.args.form in
    let count = c.args.count in
    let are = turn_roads map.roads map.ways map.turns count c.in-Ok-cars_of.ground c.in-Ok-cars_of.ensures.cars c.in-Ok-new.table c.in-Ok-new.ensures.kept
    (guide_of c.in-Ok-prepare_opening.made) c.in-Ok-prepare_opening.ensures.guide c.new-answers.result c.new-answers.ensures in
    over_map (AreOfMap form map.roads map.ways map.turns) (IsAnswered (IsLineOf c.new-answers.result)) (λ held bytes text. IsTurnText form held count bytes text)
    (turn_text form map.roads map.ways map.turns count c.new-answers.result are) _ _ _ _ c.in-Ok.ensures.map (c.answer_lines.ensures.done e)

pub returns-clause-front : goal.returns-clause-front
returns-clause-front g c = λ e.
    let map = c.in-Ok.map in
    let form = c.args.form in
    let count = c.args.count in
    let are = turn_roads map.roads map.ways map.turns count c.in-Ok-cars_of.ground c.in-Ok-cars_of.ensures.cars c.in-Ok-new.table c.in-Ok-new.ensures.kept
    (guide_of c.in-Ok-prepare_opening.made) c.in-Ok-prepare_opening.ensures.guide c.new-answers.result c.new-answers.ensures in
    front_over_map (AreOfMap form map.roads map.ways map.turns) (IsAnswered (IsLineOf c.new-answers.result)) (λ held bytes text. IsTurnText form held count bytes text)
    (turn_text form map.roads map.ways map.turns count c.new-answers.result are) _ _ _ _ c.in-Ok.ensures.map (c.answer_lines.ensures.front e)
