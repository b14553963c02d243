use Rattle.json_laws.proofs.Decimals.{decimals_exact}
use Rattle.json_laws.proofs.laws.decimals_are_exact.Goals as goal

pub returns : goal.returns
returns c = λ negative down whole fraction exponent d e. decimals_exact negative down whole fraction exponent d e
