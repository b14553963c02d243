-- Which relations are turn restrictions (OSM wiki, "Relation:restriction"): `type` is `restriction`, `restriction` begins with `no_` or `only_`, and there
-- is one way with the role `from`, one node with the role `via`, and one way with the role `to`.
use Rattle.std.specs.Prelude.{ℕ, ℤ, Bool, true, false, ◌==◌, if◌then◌else◌, List, [], ◌∷◌, Option, Some, None, count_by, find, bytes_eq, codes}
use Rattle.tag_rules.specs.Tags.{tag_of, is_word}
use Rattle.turn_graph.specs.declared.turn.Turn.{Turn}
use Rattle.turn_texts.specs.declared.relation.MemberKind.{MemberKind}
use Rattle.turn_texts.specs.declared.relation.MemberKind.TheVariants as kinds
use Rattle.turn_texts.specs.declared.relation.Member.{Member}
use Rattle.turn_texts.specs.declared.relation.Relation.{Relation}

-- a step that may have nothing to go on with
infixl 10 ◌>>=◌
abbrev pub ◌>>=◌ : {A B : Type 0} → Option A → (A → Option B) → Option B
None >>= f = None
(Some x) >>= f = f x

-- the one kind is the other
abbrev pub is_of_kind : MemberKind → MemberKind → Bool
is_of_kind kinds.Node kinds.Node = true
is_of_kind kinds.Node kinds.Way = false
is_of_kind kinds.Node kinds.Relation = false
is_of_kind kinds.Way kinds.Node = false
is_of_kind kinds.Way kinds.Way = true
is_of_kind kinds.Way kinds.Relation = false
is_of_kind kinds.Relation kinds.Node = false
is_of_kind kinds.Relation kinds.Way = false
is_of_kind kinds.Relation kinds.Relation = true

abbrev pub has_role : List ℕ → Member → Bool
has_role role member = bytes_eq member.role role

-- the id of a member, where it is of this kind
abbrev pub id_of_kind : MemberKind → Member → Option ℤ
id_of_kind kind member = if is_of_kind kind member.kind then Some member.id else None

-- the id of the one member of a role, where it is of this kind; other members are passed over
abbrev pub id_of_role : List ℕ → MemberKind → List Member → Option ℤ
id_of_role role kind members =
    if count_by (has_role role) members == 1 then (find (has_role role) members >>= id_of_kind kind) else None

-- whether these bytes begin with those
abbrev pub begins : List ℕ → List ℕ → Bool
begins [] bytes = true
begins (a ∷ front) [] = false
begins (a ∷ front) (b ∷ bytes) = if a == b then begins front bytes else false

-- "no_", or "only_", which is true
abbrev pub only_by : List ℕ → Option Bool
only_by value = if begins (codes "no_") value then Some false else if begins (codes "only_") value then Some true else None

-- the restriction that a relation is, if it is one
abbrev pub turn_of : Relation → Option Turn
turn_of relation =
    if is_word (tag_of (codes "type") relation.tags) (codes "restriction") then (do
      value ← tag_of (codes "restriction") relation.tags
      only ← only_by value
      from ← id_of_role (codes "from") kinds.Way relation.members
      via ← id_of_role (codes "via") kinds.Node relation.members
      to ← id_of_role (codes "to") kinds.Way relation.members
      Some (record { from = from; via = via; to = to; only = only }))
    else None
