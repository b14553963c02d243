use Rattle.json_laws.proofs.Escapes.{pair_read}
use Rattle.json_laws.proofs.laws.pairs_are_one_character.Goals as goal

pub returns : goal.returns
returns c = λ start a b c d e f g h high low rest one two few few_too. pair_read start a b c d e f g h high low rest one two few few_too
