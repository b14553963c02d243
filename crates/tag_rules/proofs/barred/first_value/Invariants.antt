use Rattle.std.proofs.Common.{◌≡◌, map, drop}
use Rattle.tag_rules.specs.Access.{first_of}
use Rattle.tag_rules.proofs.barred.first_value.Given as goal

-- no key so far is there
abbrev pub invariant-loop-key : goal.invariant-loop-key
invariant-loop-key l = first_of (map (λ k. k.now) (drop l.key-index l.keys)) l.tags ≡ first_of (map (λ k. k.now) l.keys) l.tags
