use Rattle.std.proofs.Common.{◌≡◌, IsUtf8, IfSome}
use Rattle.std.specs.Option.{option_map}
use Rattle.gh_base.specs.Parts.{parts_of, parts_left, room}
use Rattle.plain_map.proofs.Loops.{with_front}
use Rattle.turn_texts.specs.PlainRelations.{members_of}
use Rattle.turn_texts.proofs.members.each_member.Given as goal

-- what is read, and what is left, are the members
abbrev pub invariant-parts : goal.invariant-parts
invariant-parts l = record {
  text : IfSome (option_map (λ t. t.now) l.left) IsUtf8;
  read : with_front l.all (members_of (parts_left 44 (option_map (λ t. t.now) l.left))) ≡ members_of (parts_of 44 l.text);
}

abbrev pub decreases-parts : goal.decreases-parts
decreases-parts l = room (option_map (λ t. t.now) l.left)
