use Rattle.std.proofs.Common.{◌≡◌, ◌≤◌, ◌+◌, drop}
use Rattle.gh_serve.specs.Labels.{labels_in}
use Rattle.gh_serve.proofs.labels.add_labels.Given as goal

-- the labels so far, and those of the lines that are left, are all of them
abbrev pub invariant-lines : goal.invariant-lines
invariant-lines l = record {
  left : l.labels + labels_in l.size (drop l.line-index l.lines) ≡ l.before + labels_in l.size l.lines;
  few : l.labels ≤ 150000000;
}
