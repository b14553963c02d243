use Rattle.pbf_cuts.proofs.Fronts.{fronts_told}
use Rattle.pbf_cuts.proofs.law.cuts_are_told.Goals as goal

pub returns : goal.returns
returns c = fronts_told
