use Rattle.value_plan.specs.Slots.{number_of}
use Rattle.value_plan.proofs.Packing.{holds_forward, holds_reverse}
use Rattle.std.proofs.Common.{◌∙◌}
use Rattle.value_plan.proofs.road.put_values.Goals as goal

pub returns-clause-forward : goal.returns-clause-forward
returns-clause-forward g c =
    holds_forward (number_of (g.W.EdgeWords.word_of c.put_number.new.words c.args.edge.0)) c.args.values.now c.number_of_values-number.ensures.in_range (c.put_number.ensures.number ∙ c.number_of_values-number.ensures.number)

pub returns-clause-reverse : goal.returns-clause-reverse
returns-clause-reverse g c =
    holds_reverse (number_of (g.W.EdgeWords.word_of c.put_number.new.words c.args.edge.0)) c.args.values.now c.number_of_values-number.ensures.in_range (c.put_number.ensures.number ∙ c.number_of_values-number.ensures.number)
