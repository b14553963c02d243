use Rattle.plain_laws.proofs.Decimals.{exact}
use Rattle.plain_laws.proofs.laws.coordinates_are_exact.Goals as goal

pub returns : goal.returns
returns c = λ most minus whole places h some few k some_too few_too. exact most minus whole places h some few k some_too few_too
