use Rattle.std.proofs.Common.{◌≡◌, IsUtf8, IfSome}
use Rattle.std.specs.Option.{option_map}
use Rattle.gh_base.specs.Parts.{parts_left, room}
use Rattle.turn_texts.specs.PlainRelations.{relation_words, nothing}
use Rattle.turn_texts.proofs.lines.all_words.Given as goal

-- what the words that are left make is what all of them make
abbrev pub invariant-words : goal.invariant-words
invariant-words l = record {
  text : IfSome (option_map (λ t. t.now) l.left) IsUtf8;
  read : relation_words l.s (parts_left 32 (option_map (λ t. t.now) l.left)) ≡ relation_words nothing (parts_left 32 (option_map (λ t. t.now) l.fn.words));
}

abbrev pub decreases-words : goal.decreases-words
decreases-words l = room (option_map (λ t. t.now) l.left)
