use Rattle.query_lines.specs.Answering.{IsAnswered}
use Rattle.map_roads.specs.Cars.{AreCarsIn}
use Rattle.map_roads.specs.Opening.{guide_of}
use Rattle.both_runs.specs.Lines.{IsRightLine}
use Rattle.both_runs.specs.Runs.{IsBothText}
use Rattle.query_lines.proofs.OverMaps.{map_said, labels_said, over_map, front_over_map}
use Rattle.both_runs.proofs.Told.{both_text}
use Rattle.both_runs.proofs.commands.both_map.Goals as goal

pub returns-clause-done : goal.returns-clause-done
returns-clause-done g c = λ e.
    let land = c.in-Ok.ground in
    let ends = c.new-ends.result in
    let form = c.args.form in
    over_map (λ held. AreCarsIn form held land) (IsAnswered (IsRightLine ends.land ends.guide)) (λ held bytes text. IsBothText form held c.args.count bytes text)
    (both_text form c.args.count land (guide_of c.in-Ok-prepare_opening.made) c.in-Ok-prepare_opening.ensures.guide ends c.new-ends.ensures)
    _ _ _ _ c.in-Ok.ensures.cars (c.answer_lines.ensures.done e)

pub returns-clause-front : goal.returns-clause-front
returns-clause-front g c = λ e.
    let land = c.in-Ok.ground in
    let ends = c.new-ends.result in
    let form = c.args.form in
    front_over_map (λ held. AreCarsIn form held land) (IsAnswered (IsRightLine ends.land ends.guide)) (λ held bytes text. IsBothText form held c.args.count bytes text)
    (both_text form c.args.count land (guide_of c.in-Ok-prepare_opening.made) c.in-Ok-prepare_opening.ensures.guide ends c.new-ends.ensures)
    _ _ _ _ c.in-Ok.ensures.cars (c.answer_lines.ensures.front e)

pub returns-clause-map : goal.returns-clause-map
returns-clause-map g c = map_said c.args.form _ c.in-Ok.ensures.map c.answer_lines.result c.answer_lines.ensures.statuses

pub returns-clause-labels : goal.returns-clause-labels
returns-clause-labels g c = labels_said c.args.form c.args.count _ c.in-Ok.ensures.few c.answer_lines.result c.answer_lines.ensures.statuses
