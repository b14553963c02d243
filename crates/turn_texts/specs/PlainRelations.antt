-- Relations in a plain map (after OPL, "OPL File Format Manual"): `r` and an id, and then fields as those of a way, and M: members parted by commas, each
-- n, w or r, an id, @ and a role with the escapes of tags.
use Rattle.std.specs.Prelude.{ℕ, Bool, false, if◌then◌else◌, List, [], ◌∷◌, length, Option, Some, None, Result, Ok, Err, ◌==◌, is_some, unwrap_or, filter_map}
use Rattle.std.specs.List.{list_any, join_with_byte}
use Rattle.std.specs.Str.Lossy.{utf8_valid_len}
use Rattle.gh_base.specs.declared.kinds.PlainKind.{PlainKind}
use Rattle.gh_base.specs.declared.kinds.PlainKind.TheVariants.{Number, Tag, Field, Line, Utf8}
use Rattle.gh_base.specs.Decimals.{id_of}
use Rattle.gh_base.specs.Parts.{parts_of}
use Rattle.plain_map.specs.Escapes.{◌>>=◌, text_at}
use Rattle.plain_map.specs.Fields.{behind, or_kind, tags_at, refs_at, is_skipped}
use Rattle.turn_graph.specs.declared.turn.Turn.{Turn}
use Rattle.turn_texts.specs.declared.relation.MemberKind.{MemberKind}
use Rattle.turn_texts.specs.declared.relation.MemberKind.TheVariants as kinds
use Rattle.turn_texts.specs.declared.relation.Member.{Member}
use Rattle.turn_texts.specs.declared.relation.Relation.{Relation}
use Rattle.turn_texts.specs.declared.lines.RelationSoFar.{RelationSoFar}
use Rattle.turn_texts.specs.Restricting.{turn_of}

-- a role, with its escapes read; an equals sign doesn't stand for itself
unfoldable pub role_at : List ℕ → Result (List ℕ) PlainKind
role_at bytes = if list_any (λ b. b == 61) bytes then Err Tag else text_at bytes

-- the two sides of the first @
abbrev pub sides_of : List (List ℕ) → Option (List ℕ × List ℕ)
sides_of [] = None
sides_of (first ∷ []) = None
sides_of (first ∷ part ∷ parts) = Some (first, join_with_byte 64 (part ∷ parts))

-- an id before it, and a role behind it
abbrev pub member_with : MemberKind → Option (List ℕ × List ℕ) → Result Member PlainKind
member_with kind None = Err Field
member_with kind (Some sides) = do
  id ← or_kind Number (id_of sides.0)
  role ← role_at sides.1
  Ok (record { kind = kind; id = id; role = role })

unfoldable pub id_and_role : MemberKind → List ℕ → Result Member PlainKind
id_and_role kind bytes = member_with kind (sides_of (parts_of 64 bytes))

-- by its letter: n, w or r
abbrev pub member_by : Option (List ℕ) → Option (List ℕ) → Option (List ℕ) → Result Member PlainKind
member_by (Some bytes) way relation = id_and_role kinds.Node bytes
member_by None (Some bytes) relation = id_and_role kinds.Way bytes
member_by None None (Some bytes) = id_and_role kinds.Relation bytes
member_by None None None = Err Field

abbrev pub member_at : List ℕ → Result Member PlainKind
member_at bytes = member_by (behind 110 bytes) (behind 119 bytes) (behind 114 bytes)

abbrev pub members_of : List (List ℕ) → Result (List Member) PlainKind
members_of [] = Ok []
members_of (part ∷ parts) = do
  member ← member_at part
  members ← members_of parts
  Ok (member ∷ members)

-- nothing, or members between commas
unfoldable pub members_at : List ℕ → Result (List Member) PlainKind
members_at bytes = if length bytes == 0 then Ok [] else members_of (parts_of 44 bytes)

-- a field where its letter was its own, else what the other letters say; none stands twice
abbrev pub tags_with : RelationSoFar → Option (List ℕ) → Result RelationSoFar PlainKind → Result RelationSoFar PlainKind
tags_with s None other = other
tags_with s (Some bytes) other = if is_some s.tags then Err Field else (tags_at bytes >>= λ tags. Ok (record { tags = Some tags; refs = s.refs; members = s.members }))

abbrev pub refs_with : RelationSoFar → Option (List ℕ) → Result RelationSoFar PlainKind → Result RelationSoFar PlainKind
refs_with s None other = other
refs_with s (Some bytes) other = if is_some s.refs then Err Field else (refs_at bytes >>= λ refs. Ok (record { tags = s.tags; refs = Some refs; members = s.members }))

abbrev pub members_with : RelationSoFar → Option (List ℕ) → Result RelationSoFar PlainKind → Result RelationSoFar PlainKind
members_with s None other = other
members_with s (Some bytes) other = if is_some s.members then Err Field else (members_at bytes >>= λ members. Ok (record { tags = s.tags; refs = s.refs; members = Some members }))

-- the relation with a word more: T, N, M, or a letter that is skipped
unfoldable pub relation_with : RelationSoFar → List ℕ → Result RelationSoFar PlainKind
relation_with s word =
    tags_with s (behind 84 word) (refs_with s (behind 78 word) (members_with s (behind 77 word)
    (if is_skipped word then Ok s else Err Field)))

abbrev pub relation_words : RelationSoFar → List (List ℕ) → Result RelationSoFar PlainKind
relation_words s [] = Ok s
relation_words s (word ∷ words) = relation_with s word >>= λ t. relation_words t words

abbrev pub nothing : RelationSoFar
nothing = record { tags = None; refs = None; members = None }

abbrev pub relation_by : Option (List ℕ) → List (List ℕ) → Result Relation PlainKind
relation_by None words = Err Line
relation_by (Some digits) words = do
  id ← or_kind Number (id_of digits)
  s ← relation_words nothing words
  Ok (record { tags = unwrap_or s.tags []; members = unwrap_or s.members [] })

abbrev pub relation_of : List (List ℕ) → Result Relation PlainKind
relation_of [] = Err Line
relation_of (first ∷ words) = relation_by (behind 114 first) words

-- the relation that a line is
unfoldable pub relation_at : List ℕ → Result Relation PlainKind
relation_at line = if utf8_valid_len line == length line then relation_of (parts_of 32 line) else Err Utf8

abbrev pub turn_in : Result Relation PlainKind → Option Turn
turn_in (Ok relation) = turn_of relation
turn_in (Err kind) = None

-- begun by r
abbrev pub is_begun : List ℕ → Bool
is_begun [] = false
is_begun (b ∷ bytes) = b == 114

-- the restriction that a line is, if it is one
abbrev pub turn_at : List ℕ → Option Turn
turn_at line = if is_begun line then turn_in (relation_at line) else None

-- the restrictions of a plain map, in order
abbrev pub plain_turns : List ℕ → List Turn
plain_turns bytes = filter_map turn_at (parts_of 10 bytes)
