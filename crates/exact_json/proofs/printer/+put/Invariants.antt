use Rattle.std.proofs.Common.{◌≡◌, ◌++◌, map, drop}
use Rattle.exact_json.specs.Printed as spec
use Rattle.exact_json.specs.Again.{all_true, is_sound, is_sound_member}
use Rattle.exact_json.proofs.printer.+put.Given as goal

abbrev pub invariant-put_items-loop-item : goal.invariant-put_items-loop-item
invariant-put_items-loop-item l = record {
  text : l.out ++ spec.joined_rest (map spec.printed (drop l.item-index l.rest)) ≡ l.fn.out ++ spec.joined (map spec.printed l.fn.items);
  sound : all_true (map is_sound (drop l.item-index l.rest)) ≡ all_true (map is_sound l.fn.items);
}

abbrev pub invariant-put_members-loop-member : goal.invariant-put_members-loop-member
invariant-put_members-loop-member l = record {
  text : l.out ++ spec.joined_rest (map spec.printed_member (drop l.member-index l.rest)) ≡ l.fn.out ++ spec.joined (map spec.printed_member l.fn.members);
  sound : all_true (map is_sound_member (drop l.member-index l.rest)) ≡ all_true (map is_sound_member l.fn.members);
}
