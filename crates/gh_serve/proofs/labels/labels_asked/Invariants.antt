use Rattle.std.proofs.Common.{◌≡◌, ◌≤◌, ◌+◌, drop}
use Rattle.gh_serve.specs.Labels.{labels_in_phases}
use Rattle.gh_serve.proofs.labels.labels_asked.Given as goal

-- the labels so far, and those of the phases that are left, are all of them
abbrev pub invariant-phases : goal.invariant-phases
invariant-phases l = record {
  left : l.labels + labels_in_phases l.size (drop l.phase-index l.script.phases) ≡ labels_in_phases l.size l.script.phases;
  few : l.labels ≤ 150000000;
}
