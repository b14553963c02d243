use Rattle.plain_map.proofs.PrintedLines.{map_again}
use Rattle.plain_map.proofs.law.maps_are_read_again.Goals as goal

pub returns : goal.returns
returns c = map_again
