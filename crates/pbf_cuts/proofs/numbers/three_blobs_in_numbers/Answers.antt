use Rattle.pbf_cuts.proofs.ThreeBlobsShown.{read_exactly, cut_elsewhere, none_without_bytes}
use Rattle.pbf_cuts.proofs.numbers.three_blobs_in_numbers.Goals as goal

pub returns-clause-empty : goal.returns-clause-empty
returns-clause-empty c = none_without_bytes

pub returns-clause-read : goal.returns-clause-read
returns-clause-read c = read_exactly

pub returns-clause-cut : goal.returns-clause-cut
returns-clause-cut c = cut_elsewhere
