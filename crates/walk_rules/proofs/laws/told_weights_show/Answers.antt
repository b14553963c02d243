use Rattle.walk_rules.proofs.Labelling.{told_shows_least}
use Rattle.walk_rules.proofs.Closing.{told_shows_none}
use Rattle.walk_rules.proofs.laws.told_weights_show.Goals as goal

pub returns-clause-least : goal.returns-clause-least
returns-clause-least c = λ network bound told start target weight leads s t f tells l. told_shows_least leads s t f tells l

pub returns-clause-none : goal.returns-clause-none
returns-clause-none c = λ network bound told start target leads s t falls has tells no. told_shows_none leads s t falls has tells no
