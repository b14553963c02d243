use Rattle.std.proofs.Common.{ap, ◌∙◌}
use Rattle.alt_search.specs.Kept.{reaches_in}
use Rattle.alt_search.proofs.Keeping.{none_known}
use Rattle.alt_search.proofs.reached.Reached.new.Goals as goal

pub returns : goal.returns
returns c = ap (reaches_in _) c.in_ok-new.ensures ∙ none_known _ c.args.nodes
