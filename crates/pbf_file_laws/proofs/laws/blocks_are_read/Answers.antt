use Rattle.pbf_file_laws.proofs.BlocksRead.{block_read}
use Rattle.pbf_file_laws.proofs.laws.blocks_are_read.Goals as goal

pub returns : goal.returns
returns c = λ file content m piece part stands h. block_read file content m piece part stands h
