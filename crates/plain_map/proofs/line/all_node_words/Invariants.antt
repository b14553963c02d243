use Rattle.std.proofs.Common.{◌≡◌, ◌+◌, IsUtf8, IfSome, None, false}
use Rattle.std.specs.Option.{option_map}
use Rattle.gh_base.specs.Parts.{parts_left, room}
use Rattle.plain_map.specs.Fields.{IsInRange}
use Rattle.plain_map.specs.Lines.{node_words}
use Rattle.plain_map.proofs.line.all_node_words.Given as goal

-- what the words that are left make is what all of them make
abbrev pub invariant-words : goal.invariant-words
invariant-words l = record {
  text : IfSome (option_map (λ t. t.now) l.left) IsUtf8;
  place : l.at + room (option_map (λ t. t.now) l.left) ≡ l.byte + room (option_map (λ t. t.now) l.fn.words);
  range : IsInRange l.s;
  read : node_words l.s l.at (parts_left 32 (option_map (λ t. t.now) l.left)) ≡ node_words (record { lat = None; lon = None; tagged = false }) l.byte (parts_left 32 (option_map (λ t. t.now) l.fn.words));
}

abbrev pub decreases-words : goal.decreases-words
decreases-words l = room (option_map (λ t. t.now) l.left)
