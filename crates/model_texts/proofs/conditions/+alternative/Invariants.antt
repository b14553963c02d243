use Rattle.std.proofs.Common.{◌≡◌, ◌-◌, ◌+◌, ◌*◌, map, length, codes}
use Rattle.std.specs.Prelude.{IsTrue}
use Rattle.gh_base.specs.declared.kinds.ModelKind.TheVariants.{Condition}
use Rattle.exact_json.specs.Parsing.{turns}
use Rattle.model_eval.specs.Conditions.{names_areas_of, all_true}
use Rattle.model_texts.specs.Conditions as spec
use Rattle.model_texts.proofs.conditions.+alternative.Given as goal

abbrev pub decreases-atom : goal.decreases-atom
decreases-atom l = 6 * l.depth + 1

abbrev pub decreases-negation : goal.decreases-negation
decreases-negation l = 6 * l.depth + 2

abbrev pub decreases-negations : goal.decreases-negations
decreases-negations l = 6 * l.depth + 3

abbrev pub decreases-conjunction : goal.decreases-conjunction
decreases-conjunction l = 6 * l.depth + 4

abbrev pub decreases-conjunctions : goal.decreases-conjunctions
decreases-conjunctions l = 6 * l.depth + 5

abbrev pub decreases-alternative : goal.decreases-alternative
decreases-alternative l = 6 * l.depth

abbrev pub invariant-negations-loop-turn : goal.invariant-negations-loop-turn
invariant-negations-loop-turn l = record {
  read : turns Condition (spec.part_turn (spec.negation l.areas (spec.test_at l.areas l.depth)) (codes "&&")) (l._turn-end - l._turn) l.found l.text
      ≡ spec.parts (spec.negation l.areas (spec.test_at l.areas l.depth)) (codes "&&") l.fn.text;
  named : IsTrue (all_true (map (names_areas_of (length l.areas)) l.found));
}

abbrev pub invariant-conjunctions-loop-turn : goal.invariant-conjunctions-loop-turn
invariant-conjunctions-loop-turn l = record {
  read : turns Condition (spec.part_turn (spec.conjunction l.areas (spec.test_at l.areas l.depth)) (codes "||")) (l._turn-end - l._turn) l.found l.text
      ≡ spec.parts (spec.conjunction l.areas (spec.test_at l.areas l.depth)) (codes "||") l.fn.text;
  named : IsTrue (all_true (map (names_areas_of (length l.areas)) l.found));
}
