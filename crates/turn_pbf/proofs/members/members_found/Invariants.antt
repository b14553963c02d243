use Rattle.std.proofs.Common.{◌≡◌, pos, length}
use Rattle.turn_pbf.specs.PbfRelations.{members_from}
use Rattle.turn_pbf.proofs.Sums.{with_front}
use Rattle.turn_pbf.proofs.members.members_found.Given as goal

-- what is read, and what is left, are the members
abbrev pub invariant-members : goal.invariant-members
invariant-members l = with_front l.all (members_from l.texts l.last l.roles_left l.ids_left l.kinds_left) ≡ members_from l.texts (pos 0) l.roles l.ids l.kinds

abbrev pub decreases-members : goal.decreases-members
decreases-members l = length l.roles_left
