use Rattle.std.proofs.Common.{◌≡◌, ◌-◌}
use Rattle.gh_base.specs.declared.kinds.JsonKind.TheVariants.{End}
use Rattle.exact_json.specs.Parsing.{turns}
use Rattle.exact_json.specs.Texts as spec
use Rattle.exact_json.proofs.texts.string.Given as goal

abbrev pub invariant-loop-turn : goal.invariant-loop-turn
invariant-loop-turn l = turns End spec.text_turn (l._turn-end - l._turn) l.out l.text ≡ spec.text l.fn.text
