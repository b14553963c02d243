use Rattle.pbf_file_laws.proofs.Fields.{field_there}
use Rattle.pbf_file_laws.proofs.laws.fields_are_read.Goals as goal

pub returns : goal.returns
returns c = λ front rest entry good. field_there front rest entry good
