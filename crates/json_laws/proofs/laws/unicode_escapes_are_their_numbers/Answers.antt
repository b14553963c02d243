use Rattle.json_laws.proofs.Escapes.{unicode_read}
use Rattle.json_laws.proofs.laws.unicode_escapes_are_their_numbers.Goals as goal

pub returns : goal.returns
returns c = λ start a b c d number rest digits none. unicode_read start a b c d number rest digits none
