use Rattle.std.proofs.Common.{◌≡◌, [], drop}
use Rattle.pbf_wire.specs.Groups.{messages_with}
use Rattle.pbf_reader.proofs.groups.with_group.Given as goal

abbrev pub invariant-loop-message : goal.invariant-loop-message
invariant-loop-message l = messages_with l.texts l.scale l.made (drop l.message-index l.messages) ≡ messages_with l.texts l.scale (record { map = l.fn.map; dense = [] }) l.messages
