use Rattle.script_laws.proofs.HeaderLines.{profile_line_again}
use Rattle.script_laws.proofs.laws.profiles_are_read.Goals as goal

pub returns : goal.returns
returns c = λ s name vehicle is new few done phase. profile_line_again s done phase name vehicle is new few
