use Rattle.pbf_file_laws.proofs.ExampleShown.{file_is}
use Rattle.pbf_file_laws.proofs.laws.files_there_are.Goals as goal

pub returns : goal.returns
returns c = file_is
