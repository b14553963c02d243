use Rattle.std.proofs.Common.{◌≡◌, ◌++◌, drop, map, codes}
use Rattle.plain_map.specs.Printing.{listed, ref_text}
use Rattle.plain_map.proofs.texts.push_refs.Given as goal

-- what is written, and what the references that are left will be
abbrev pub invariant-loop-id : goal.invariant-loop-id
invariant-loop-id l = l.out.items ++ listed l.lead (map ref_text (drop l.id-index l.refs)) ≡ l.fn.out.items ++ listed (codes " N") (map ref_text l.refs)
