use Rattle.pbf_file_laws.proofs.FilesRead.{file_read}
use Rattle.pbf_file_laws.proofs.laws.files_are_read.Goals as goal

pub returns : goal.returns
returns c = λ file m h. file_read file m h
