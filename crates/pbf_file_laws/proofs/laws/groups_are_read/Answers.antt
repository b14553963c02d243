use Rattle.pbf_file_laws.proofs.GroupsRead.{group_read}
use Rattle.pbf_file_laws.proofs.laws.groups_are_read.Goals as goal

pub returns : goal.returns
returns c = λ texts scale m bytes content at part stands h. group_read texts scale m bytes content at part stands h
