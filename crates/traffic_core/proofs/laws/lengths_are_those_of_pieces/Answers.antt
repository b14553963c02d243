use Rattle.traffic_core.proofs.Apart.{whole, pieces, forward, backward}
use Rattle.traffic_core.proofs.laws.lengths_are_those_of_pieces.Goals as goal

pub returns : goal.returns
returns c = record { whole = whole; pieces = pieces; forward = forward; reverse = backward }
