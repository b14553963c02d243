use Rattle.std.proofs.Common.{◌≡◌, ◌++◌, drop}
use Rattle.script_text.specs.Replies.{labels_text}
use Rattle.script_text.proofs.reply_line.put_labels.Given as goal

-- what is written, and what the labels that are left will be
abbrev pub invariant-loop-label : goal.invariant-loop-label
invariant-loop-label l = l.out ++ labels_text (drop l.label-index l.labels) ≡ l.fn.out ++ labels_text l.labels
