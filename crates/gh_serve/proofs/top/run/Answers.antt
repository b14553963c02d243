use Rattle.std.proofs.Common.{subst}
use Rattle.gh_serve.proofs.top.run.Goals as goal
use Rattle.gh_words.specs.Words.{IsInBounds}
use Rattle.gh_serve.proofs.Complete.{serves_complete, converts_complete, tells_complete}
use Rattle.prep_runs.proofs.CarRoads.{preps_complete, checks_complete}
use Rattle.gh_serve.proofs.Queries.{answers_complete}
use Rattle.gh_serve.proofs.Unwritten.{never_unwritten}

pub returns-in-Ok-Serve-clause-complete : goal.returns-in-Ok-Serve-clause-complete
returns-in-Ok-Serve-clause-complete g c =
    rw (c.in-Ok-Serve.ensures.request, c.in-Ok-Serve.field-0-is) (serves_complete c.serve_map.result c.in-Ok-Serve.form _ _ _ _ _ _ _ _ _ _ c.serve_map.ensures.statuses c.serve_map.ensures.map c.serve_map.ensures.script c.serve_map.ensures.labels c.serve_map.ensures.open c.serve_map.ensures.read_map c.serve_map.ensures.read_script c.serve_map.ensures.write)

pub returns-in-Ok-Convert-clause-converted_complete : goal.returns-in-Ok-Convert-clause-converted_complete
returns-in-Ok-Convert-clause-converted_complete g c =
    rw (c.in-Ok-Convert.ensures.request, c.in-Ok-Convert.field-0-is) (converts_complete c.convert_map.result c.in-Ok-Convert.form c.in-Ok-Convert.to _ _ _ _ _ _ _ c.convert_map.ensures.statuses c.convert_map.ensures.map c.convert_map.ensures.open c.convert_map.ensures.read c.convert_map.ensures.write)

pub returns-in-Ok-Roads-clause-roads_complete : goal.returns-in-Ok-Roads-clause-roads_complete
returns-in-Ok-Roads-clause-roads_complete g c =
    rw (c.in-Ok-Roads.ensures.request, c.in-Ok-Roads.field-0-is) (tells_complete c.roads_map.result c.in-Ok-Roads.form _ _ _ _ _ _ _ c.roads_map.ensures.statuses c.roads_map.ensures.map c.roads_map.ensures.open c.roads_map.ensures.read c.roads_map.ensures.write)

pub generate-requires-clause-two : goal.generate-requires-clause-two
generate-requires-clause-two g c = λ _ _. (subst IsInBounds c.in-Ok-Generate.field-0-is c.in-Ok-Generate.ensures.bounds).least

pub generate-requires-clause-few : goal.generate-requires-clause-few
generate-requires-clause-few g c = λ _ _. (subst IsInBounds c.in-Ok-Generate.field-0-is c.in-Ok-Generate.ensures.bounds).most

pub returns-in-Ok-Generate-clause-nothing : goal.returns-in-Ok-Generate-clause-nothing
returns-in-Ok-Generate-clause-nothing g c =
    rw c.in-Ok-Generate.ensures.request (λ unwritten. absurd (never_unwritten c.generate.result c.generate.ensures.statuses unwritten))

pub prep_map-requires-clause-some : goal.prep_map-requires-clause-some
prep_map-requires-clause-some g c = λ _ _. (subst IsInBounds c.in-Ok-Prep.field-0-is c.in-Ok-Prep.ensures.bounds).least

pub prep_map-requires-clause-few : goal.prep_map-requires-clause-few
prep_map-requires-clause-few g c = λ _ _. (subst IsInBounds c.in-Ok-Prep.field-0-is c.in-Ok-Prep.ensures.bounds).most

pub returns-in-Ok-Prep-clause-prepared_complete : goal.returns-in-Ok-Prep-clause-prepared_complete
returns-in-Ok-Prep-clause-prepared_complete g c =
    rw (c.in-Ok-Prep.ensures.request, c.in-Ok-Prep.field-0-is) (preps_complete c.prep_map.result c.in-Ok-Prep.form c.in-Ok-Prep.count _ _ _ _ _ _ _ c.prep_map.ensures.statuses c.prep_map.ensures.map c.prep_map.ensures.says c.prep_map.ensures.open c.prep_map.ensures.read c.prep_map.ensures.write)

pub returns-in-Ok-Check-clause-checked_complete : goal.returns-in-Ok-Check-clause-checked_complete
returns-in-Ok-Check-clause-checked_complete g c =
    rw (c.in-Ok-Check.ensures.request, c.in-Ok-Check.field-0-is) (checks_complete c.check_map.result c.in-Ok-Check.form _ _ _ _ _ _ _ _ _ _ c.check_map.ensures.statuses c.check_map.ensures.map c.check_map.ensures.store c.check_map.ensures.open c.check_map.ensures.read_map c.check_map.ensures.read_store c.check_map.ensures.write)

pub both_map-requires-clause-some : goal.both_map-requires-clause-some
both_map-requires-clause-some g c = λ _ _. (subst IsInBounds c.in-Ok-Both.field-0-is c.in-Ok-Both.ensures.bounds).least

pub both_map-requires-clause-few : goal.both_map-requires-clause-few
both_map-requires-clause-few g c = λ _ _. (subst IsInBounds c.in-Ok-Both.field-0-is c.in-Ok-Both.ensures.bounds).most

pub returns-in-Ok-Both-clause-answered_complete : goal.returns-in-Ok-Both-clause-answered_complete
returns-in-Ok-Both-clause-answered_complete g c =
    rw (c.in-Ok-Both.ensures.request, c.in-Ok-Both.field-0-is) (answers_complete c.both_map.result c.in-Ok-Both.form c.in-Ok-Both.count _ _ _ _ _ _ _ _ _ _ c.both_map.ensures.statuses c.both_map.ensures.map c.both_map.ensures.labels c.both_map.ensures.lines c.both_map.ensures.open c.both_map.ensures.read_map c.both_map.ensures.read_lines c.both_map.ensures.write)

pub turns_map-requires-clause-some : goal.turns_map-requires-clause-some
turns_map-requires-clause-some g c = λ _ _. (subst IsInBounds c.in-Ok-Turns.field-0-is c.in-Ok-Turns.ensures.bounds).least

pub turns_map-requires-clause-few : goal.turns_map-requires-clause-few
turns_map-requires-clause-few g c = λ _ _. (subst IsInBounds c.in-Ok-Turns.field-0-is c.in-Ok-Turns.ensures.bounds).most

pub returns-in-Ok-Turns-clause-answered_complete : goal.returns-in-Ok-Turns-clause-answered_complete
returns-in-Ok-Turns-clause-answered_complete g c =
    rw (c.in-Ok-Turns.ensures.request, c.in-Ok-Turns.field-0-is) (answers_complete c.turns_map.result c.in-Ok-Turns.form c.in-Ok-Turns.count _ _ _ _ _ _ _ _ _ _ c.turns_map.ensures.statuses c.turns_map.ensures.map c.turns_map.ensures.labels c.turns_map.ensures.lines c.turns_map.ensures.open c.turns_map.ensures.read_map c.turns_map.ensures.read_lines c.turns_map.ensures.write)
