use Rattle.script_laws.proofs.Told.{alike}
use Rattle.script_laws.proofs.laws.lines_tell_replies.Goals as goal

pub returns : goal.returns
returns c = λ a b is_a is_b same. alike a b is_a is_b same
