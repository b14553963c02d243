use Rattle.plain_laws.proofs.Escapes.{escaped_or_not}
use Rattle.plain_laws.proofs.laws.characters_may_be_escaped.Goals as goal

pub returns : goal.returns
returns c = escaped_or_not
