use Rattle.pbf_file_laws.proofs.WaysRead.{way_read}
use Rattle.pbf_file_laws.proofs.laws.ways_are_read.Goals as goal

pub returns : goal.returns
returns c = λ texts bytes content at way stands h. way_read texts bytes content at way stands h
