use Rattle.pbf_laws.proofs.Fields.{swapped}
use Rattle.pbf_laws.proofs.laws.fields_may_be_swapped.Goals as goal

pub returns : goal.returns
returns c = λ bytes number front one two back differ. swapped bytes number front one two back differ
