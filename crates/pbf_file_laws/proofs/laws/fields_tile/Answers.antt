use Rattle.pbf_file_laws.proofs.Tiles.{tiles}
use Rattle.pbf_file_laws.proofs.laws.fields_tile.Goals as goal

pub returns : goal.returns
returns c = λ bytes at inside fine. tiles bytes at inside fine
