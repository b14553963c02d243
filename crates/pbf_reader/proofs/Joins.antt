-- Group one behind another.
use Rattle.std.proofs.Common.{◌≡◌, ℕ, [], ◌∷◌, ◌++◌, Option, Some, None, refl, arith, min, append_assoc, append-nil}
use Rattle.pbf_wire.specs.declared.messages.Group.{Group}
use Rattle.pbf_wire.specs.declared.messages.Groups.{Groups}
use Rattle.pbf_wire.specs.Runs.{least}
use Rattle.pbf_wire.specs.Groups.{after, no_messages}

pub least_assoc : (a b c : Option ℕ) → least (least a b) c ≡ least a (least b c)
least_assoc None b c = refl
least_assoc (Some a) None c = refl
least_assoc (Some a) (Some b) None = refl
least_assoc (Some a) (Some b) (Some c) = let same : min (min a b) c ≡ min a (min b c) = omega arith in rw same refl

pub least_none : (a : Option ℕ) → least a None ≡ a
least_none (Some a) = refl
least_none None = refl

pub after_assoc : (a b c : Group) → after (after a b) c ≡ after a (after b c)
after_assoc a b c = rw (append_assoc a.messages b.messages c.messages, least_assoc a.bad b.bad c.bad) refl

pub after_none : (a : Group) → after a no_messages ≡ a
after_none a = rw (append-nil a.messages, least_none a.bad) refl

abbrev pub joined : Groups → Groups → Groups
joined one other = record { groups = one.groups ++ other.groups; bad = least one.bad other.bad }

pub joined_more : (front : Groups) (group : Group) (rest : Groups) → joined (record { groups = front.groups ++ group ∷ []; bad = least front.bad group.bad }) rest ≡ joined front (record { groups = group ∷ rest.groups; bad = least group.bad rest.bad })
joined_more front group rest = rw (append_assoc front.groups (group ∷ []) rest.groups, least_assoc front.bad group.bad rest.bad) refl

pub joined_none : (a : Groups) → joined a (record { groups = []; bad = None }) ≡ a
joined_none a = rw (append-nil a.groups, least_none a.bad) refl
