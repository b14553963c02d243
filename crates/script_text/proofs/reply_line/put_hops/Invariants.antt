use Rattle.std.proofs.Common.{◌≡◌, ◌++◌, drop}
use Rattle.script_text.specs.Replies.{hops_text}
use Rattle.script_text.proofs.reply_line.put_hops.Given as goal

-- what is written, and what the hops that are left will be
abbrev pub invariant-loop-hop : goal.invariant-loop-hop
invariant-loop-hop l = l.out ++ hops_text (drop l.hop-index l.hops) ≡ l.fn.out ++ hops_text l.hops
