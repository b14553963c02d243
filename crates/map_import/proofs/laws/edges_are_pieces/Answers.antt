use Rattle.map_import.proofs.Sayings as says
use Rattle.map_import.proofs.laws.edges_are_pieces.Goals as goal

pub returns : goal.returns
returns c = record { edges = says.edges; ids = says.ids }
