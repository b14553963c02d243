use Rattle.std.proofs.Common.{◌≡◌, drop, map, string_bytes}
use Rattle.std.specs.List.{list_any}
use Rattle.gh_words.specs.Words.{is_dashes}
use Rattle.gh_words.proofs.options.has_dashes.Given as goal

-- none stood alone so far
abbrev pub invariant-loop-word : goal.invariant-loop-word
invariant-loop-word l = list_any is_dashes (map (λ w. string_bytes w) (drop l.word-index l.words)) ≡ list_any is_dashes (map (λ w. string_bytes w) l.words)
