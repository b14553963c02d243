use Rattle.std.proofs.Common.{◌≡◌, ◌++◌, drop}
use Rattle.plain_map.specs.Printing.{escaped}
use Rattle.plain_map.proofs.texts.push_escaped.Given as goal

-- what is written, and what the bytes that are left will be
abbrev pub invariant-loop-b : goal.invariant-loop-b
invariant-loop-b l = l.out.items ++ escaped (drop l.b-index l.text) ≡ l.fn.out.items ++ escaped l.text
