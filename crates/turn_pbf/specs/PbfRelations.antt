-- A Relation: id=1 int64; keys=2, vals=3 packed uint32; roles_sid=8 packed int32; memids=9 packed sint64 deltas; types=10 packed, 0 a node, 1 a way,
-- 2 a relation (OSM wiki, "PBF Format": "Ways and relations").
use Rattle.std.specs.Prelude.{ℕ, ◌%◌, ◌^◌, ℤ, pos, ◌+ℤ◌, Bool, ◌||◌, not, if◌then◌else◌, List, [], ◌∷◌, length, Option, Some, None, ◌==◌, is_some}
use Rattle.std.specs.Int.{int_wrap, w64}
use Rattle.std.specs.Ordering.{int_eq}
use Rattle.std.specs.Result.{result_ok}
use Rattle.pbf_wire.specs.Runs.{run_of, least}
use Rattle.pbf_wire.specs.Lists.{values_of}
use Rattle.pbf_wire.specs.Pieces.{scalar_of}
use Rattle.pbf_wire.specs.Deltas.{zigzag_of}
use Rattle.pbf_wire.specs.Ways.{text_at, tags_of}
use Rattle.turn_texts.specs.declared.relation.MemberKind.{MemberKind}
use Rattle.turn_texts.specs.declared.relation.MemberKind.TheVariants as kinds
use Rattle.turn_texts.specs.declared.relation.Member.{Member}
use Rattle.turn_texts.specs.declared.relation.Relation.{Relation}
use Rattle.turn_texts.specs.Restricting.{◌>>=◌}
use Rattle.turn_pbf.specs.declared.written.Written.{Written}

-- the relation from a place to the end, as it is written
unfoldable pub written_of : List ℕ → ℕ → Written
written_of bytes at =
    let run = run_of bytes at in
    let keys = values_of bytes 2 run.fields in
    let values = values_of bytes 3 run.fields in
    let roles = values_of bytes 8 run.fields in
    let ids = values_of bytes 9 run.fields in
    let kinds = values_of bytes 10 run.fields in
    record {
      id = scalar_of 1 None run.fields;
      keys = keys.values;
      values = values.values;
      roles = roles.values;
      ids = ids.values;
      kinds = kinds.values;
      bad = least (least run.bad (least keys.bad values.bad)) (least roles.bad (least ids.bad kinds.bad));
    }

-- no run of fields, no id, or lists of unequal length
abbrev pub is_uneven : Written → Bool
is_uneven written =
    is_some written.bad || not (is_some written.id) || not (length written.keys == length written.values)
    || not (length written.roles == length written.ids) || not (length written.roles == length written.kinds)

-- an int32 is the low 32 bits
abbrev pub kind_by : ℕ → MemberKind
kind_by n = if n % 2 ^ 32 == 0 then kinds.Node else if n % 2 ^ 32 == 1 then kinds.Way else kinds.Relation

-- a number and a difference, where their sum has 64 bits
abbrev pub fitting : ℤ → Option ℤ
fitting sum = if int_eq (int_wrap w64 sum) sum then Some sum else None

-- members side by side: a role by its place in the table, an id as the sum of the differences, a kind
abbrev pub members_from : List (List ℕ) → ℤ → List ℕ → List ℕ → List ℕ → Option (List Member)
members_from texts last [] ids kinds = Some []
members_from texts last (role ∷ roles) [] kinds = Some []
members_from texts last (role ∷ roles) (delta ∷ ids) [] = Some []
members_from texts last (role ∷ roles) (delta ∷ ids) (kind ∷ kinds) = do
  text ← text_at texts role
  id ← fitting (last +ℤ zigzag_of delta)
  members ← members_from texts id roles ids kinds
  Some (record { kind = kind_by kind; id = id; role = text } ∷ members)

-- the relation that it says with these strings, if it is one
unfoldable pub relation_with : List (List ℕ) → Written → Option Relation
relation_with texts written =
    if is_uneven written then None
    else (do
      tags ← result_ok (tags_of 0 texts written.keys written.values)
      members ← members_from texts (pos 0) written.roles written.ids written.kinds
      Some (record { tags = tags; members = members }))
