use Rattle.map_import.proofs.Sayings as says
use Rattle.map_import.proofs.laws.pieces_join_towers.Goals as goal

pub returns : goal.returns
returns c = record { whole = says.whole; pieces = says.pieces }
