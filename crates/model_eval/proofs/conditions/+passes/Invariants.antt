use Rattle.std.proofs.Common.{◌≡◌, map, drop}
use Rattle.model_eval.specs.Conditions as spec
use Rattle.model_eval.proofs.conditions.+passes.Given as goal

abbrev pub invariant-all_pass-loop-test : goal.invariant-all_pass-loop-test
invariant-all_pass-loop-test l =
    spec.all_true (map (spec.passes l.values l.areas) (drop l.test-index l.tests)) ≡ spec.all_true (map (spec.passes l.values l.areas) l.tests)

abbrev pub invariant-any_passes-loop-test : goal.invariant-any_passes-loop-test
invariant-any_passes-loop-test l =
    spec.any_true (map (spec.passes l.values l.areas) (drop l.test-index l.tests)) ≡ spec.any_true (map (spec.passes l.values l.areas) l.tests)
