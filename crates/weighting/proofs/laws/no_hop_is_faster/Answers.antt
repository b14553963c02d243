use Rattle.weighting.proofs.Falls.{no_hop_is_faster}
use Rattle.weighting.proofs.laws.no_hop_is_faster.Goals as goal

pub returns : goal.returns
returns c = no_hop_is_faster
