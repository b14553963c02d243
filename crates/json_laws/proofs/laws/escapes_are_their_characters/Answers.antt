use Rattle.json_laws.proofs.Escapes.{named_read}
use Rattle.json_laws.proofs.laws.escapes_are_their_characters.Goals as goal

pub returns : goal.returns
returns c = λ start e rest among. named_read start e rest among
