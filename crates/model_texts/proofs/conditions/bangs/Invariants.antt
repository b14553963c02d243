use Rattle.std.proofs.Common.{◌≡◌, ◌-◌, ◌≤◌}
use Rattle.gh_base.specs.declared.kinds.ModelKind.TheVariants.{Condition}
use Rattle.exact_json.specs.Parsing.{turns}
use Rattle.model_texts.specs.Conditions as spec
use Rattle.model_texts.proofs.conditions.bangs.Given as goal

abbrev pub invariant-loop-turn : goal.invariant-loop-turn
invariant-loop-turn l = record {
  read : turns Condition spec.bang_turn (l._turn-end - l._turn) l.n l.text ≡ spec.bangs l.fn.text;
  small : l.n ≤ l._turn;
}
