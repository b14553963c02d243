use Rattle.std.proofs.Common.{◌≡◌, ◌-◌, ◌+◌, ◌*◌}
use Rattle.gh_base.specs.declared.kinds.JsonKind.TheVariants.{End}
use Rattle.exact_json.specs.Parsing.{turns}
use Rattle.exact_json.specs.Values as spec
use Rattle.exact_json.proofs.reader.+value.Given as goal

abbrev pub decreases-array : goal.decreases-array
decreases-array l = 4 * l.depth + 3

abbrev pub decreases-items : goal.decreases-items
decreases-items l = 4 * l.depth + 2

abbrev pub decreases-value : goal.decreases-value
decreases-value l = 4 * l.depth

abbrev pub invariant-items-loop-turn : goal.invariant-items-loop-turn
invariant-items-loop-turn l = turns End (spec.item_turn (spec.value_at l.depth)) (l._turn-end - l._turn) l.found l.text ≡ spec.items (spec.value_at l.depth) l.fn.text

abbrev pub decreases-object : goal.decreases-object
decreases-object l = 4 * l.depth + 3

abbrev pub decreases-members : goal.decreases-members
decreases-members l = 4 * l.depth + 2

abbrev pub decreases-member : goal.decreases-member
decreases-member l = 4 * l.depth + 1

abbrev pub invariant-members-loop-turn : goal.invariant-members-loop-turn
invariant-members-loop-turn l = turns End (spec.member_turn (spec.value_at l.depth)) (l._turn-end - l._turn) l.found l.text ≡ spec.members (spec.value_at l.depth) l.fn.text
