use Rattle.std.proofs.Common.{◌≡◌, ◌++◌, drop, map, codes}
use Rattle.plain_map.specs.Printing.{listed, tag_text}
use Rattle.plain_map.proofs.texts.push_tags.Given as goal

-- what is written, and what the tags that are left will be
abbrev pub invariant-loop-tag : goal.invariant-loop-tag
invariant-loop-tag l = l.out.items ++ listed l.lead (map tag_text (drop l.tag-index l.tags)) ≡ l.fn.out.items ++ listed (codes " T") (map tag_text l.tags)
