use Rattle.landmark_prep.proofs.Unique.{one_placing, one_preparation, landmarks_count, nodes_labelled}
use Rattle.landmark_prep.proofs.laws.preparations_are_one.Goals as goal

pub returns-clause-one : goal.returns-clause-one
returns-clause-one c = one_preparation

pub returns-clause-placing : goal.returns-clause-placing
returns-clause-placing c = one_placing

pub returns-clause-count : goal.returns-clause-count
returns-clause-count c = landmarks_count

pub returns-clause-nodes : goal.returns-clause-nodes
returns-clause-nodes c = nodes_labelled
