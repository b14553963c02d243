use Rattle.landmark_prep.proofs.Foremost.{one_active}
use Rattle.landmark_prep.proofs.laws.active_landmarks_are_one.Goals as goal

pub returns : goal.returns
returns c = one_active
