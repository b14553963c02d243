use Rattle.std.proofs.Common.{subst}
use Rattle.landmark_prep.specs.declared.making.Made.{Made}
use Rattle.map_roads.specs.Opening.{guide_of, IsGuideOf}
use Rattle.prep_runs.proofs.cars.write_store.Goals as goal

pub returns-in-Ok-NoLandmark-clause-none : goal.returns-in-Ok-NoLandmark-clause-none
returns-in-Ok-NoLandmark-clause-none g c = λ _.
    subst (λ (m : Made). IsGuideOf c.args.ground.now c.args.count (guide_of m)) c.in-Ok-NoLandmark.field-0-is c.in-Ok-NoLandmark.ensures.guide
