use Rattle.pbf_laws.proofs.Fields.{nothing}
use Rattle.pbf_laws.proofs.laws.unknown_fields_say_nothing.Goals as goal

pub returns : goal.returns
returns c = λ bytes number front field back other. nothing bytes number front field back other
