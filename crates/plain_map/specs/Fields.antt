-- What a word of a line says: a field of a node or of a way.
use Rattle.std.specs.Prelude.{ℕ, ℤ, Bool, true, false, ◌||◌, List, [], ◌∷◌, length, Option, Some, None, Result, Ok, Err, ◌==◌, nat_le, nat_abs, is_some, IfSome, if◌then◌else◌}
use Rattle.std.specs.List.{list_all}
use Rattle.gh_base.specs.declared.kinds.PlainKind.{PlainKind}
use Rattle.gh_base.specs.declared.kinds.PlainKind.TheVariants.{Number, Tag, Place, Field}
use Rattle.gh_base.specs.declared.map.OsmTag.{OsmTag}
use Rattle.gh_base.specs.Decimals.{id_of, decimal_of}
use Rattle.gh_base.specs.Parts.{parts_of}
use Rattle.gh_base.specs.Places.{most_lat, most_lon, IsWithin}
use Rattle.plain_map.specs.declared.fields.NodeSoFar.{NodeSoFar}
use Rattle.plain_map.specs.declared.fields.WaySoFar.{WaySoFar}
use Rattle.plain_map.specs.Escapes.{◌>>=◌, text_at}

-- what follows a letter at the front
abbrev pub behind : ℕ → List ℕ → Option (List ℕ)
behind letter [] = None
behind letter (b ∷ bytes) = if b == letter then Some bytes else None

-- two parts, and no more
abbrev pub two_of : List (List ℕ) → Option (List ℕ × List ℕ)
two_of [] = None
two_of (a ∷ []) = None
two_of (a ∷ b ∷ []) = Some (a, b)
two_of (a ∷ b ∷ c ∷ more) = None

abbrev pub or_kind : {A : Type 0} → PlainKind → Option A → Result A PlainKind
or_kind kind None = Err kind
or_kind kind (Some x) = Ok x

-- a coordinate, in 1e-7 degree, at most so far from 0
unfoldable pub coordinate_at : ℕ → List ℕ → Result ℤ PlainKind
coordinate_at most bytes = do
  z ← or_kind Number (decimal_of 7 bytes)
  if nat_le (nat_abs z) most then Ok z else Err Place

abbrev pub tag_of : Option (List ℕ × List ℕ) → Result OsmTag PlainKind
tag_of None = Err Tag
tag_of (Some pair) = do
  key ← text_at pair.0
  value ← text_at pair.1
  Ok (record { key = key; value = value })

-- key=value
unfoldable pub tag_at : List ℕ → Result OsmTag PlainKind
tag_at bytes = tag_of (two_of (parts_of 61 bytes))

abbrev pub is_pair : List ℕ → Bool
is_pair bytes = is_some (two_of (parts_of 61 bytes))

abbrev pub tags_of : List (List ℕ) → Result (List OsmTag) PlainKind
tags_of [] = Ok []
tags_of (part ∷ parts) = do
  tag ← tag_at part
  tags ← tags_of parts
  Ok (tag ∷ tags)

-- nothing, or key=value between commas; each has its one = before any escape is read
unfoldable pub tags_at : List ℕ → Result (List OsmTag) PlainKind
tags_at bytes =
    if length bytes == 0 then Ok []
    else if list_all is_pair (parts_of 44 bytes) then tags_of (parts_of 44 bytes)
    else Err Tag

abbrev pub ref_at : Option (List ℕ) → Result ℤ PlainKind
ref_at None = Err Number
ref_at (Some bytes) = or_kind Number (id_of bytes)

abbrev pub refs_of : List (List ℕ) → Result (List ℤ) PlainKind
refs_of [] = Ok []
refs_of (part ∷ parts) = do
  id ← ref_at (behind 110 part)
  ids ← refs_of parts
  Ok (id ∷ ids)

-- nothing, or n and an id between commas
unfoldable pub refs_at : List ℕ → Result (List ℤ) PlainKind
refs_at bytes = if length bytes == 0 then Ok [] else refs_of (parts_of 44 bytes)

-- begun by v, d, c, t, i or u
abbrev pub is_skipped : List ℕ → Bool
is_skipped [] = false
is_skipped (b ∷ bytes) = b == 118 || b == 100 || b == 99 || b == 116 || b == 105 || b == 117

-- a latitude, where the letter was its own, else what the other letters say
abbrev pub lat_with : NodeSoFar → Option (List ℕ) → Result NodeSoFar PlainKind → Result NodeSoFar PlainKind
lat_with s None other = other
lat_with s (Some bytes) other = if is_some s.lat then Err Field else (coordinate_at most_lat bytes >>= λ z. Ok (record { lat = Some z; lon = s.lon; tagged = s.tagged }))

-- a longitude, alike
abbrev pub lon_with : NodeSoFar → Option (List ℕ) → Result NodeSoFar PlainKind → Result NodeSoFar PlainKind
lon_with s None other = other
lon_with s (Some bytes) other = if is_some s.lon then Err Field else (coordinate_at most_lon bytes >>= λ z. Ok (record { lat = s.lat; lon = Some z; tagged = s.tagged }))

-- tags of a node, which are read and dropped
abbrev pub node_tags_with : NodeSoFar → Option (List ℕ) → Result NodeSoFar PlainKind → Result NodeSoFar PlainKind
node_tags_with s None other = other
node_tags_with s (Some bytes) other = if s.tagged then Err Field else (tags_at bytes >>= λ tags. Ok (record { lat = s.lat; lon = s.lon; tagged = true }))

-- the node with a word more: y, x, T, or a letter that is skipped
unfoldable pub node_with : NodeSoFar → List ℕ → Result NodeSoFar PlainKind
node_with s word =
    lat_with s (behind 121 word) (lon_with s (behind 120 word) (node_tags_with s (behind 84 word)
    (if is_skipped word then Ok s else Err Field)))

-- tags of a way, where the letter was theirs
abbrev pub tags_with : WaySoFar → Option (List ℕ) → Result WaySoFar PlainKind → Result WaySoFar PlainKind
tags_with s None other = other
tags_with s (Some bytes) other = if is_some s.tags then Err Field else (tags_at bytes >>= λ tags. Ok (record { tags = Some tags; refs = s.refs }))

-- references of a way, alike
abbrev pub refs_with : WaySoFar → Option (List ℕ) → Result WaySoFar PlainKind → Result WaySoFar PlainKind
refs_with s None other = other
refs_with s (Some bytes) other = if is_some s.refs then Err Field else (refs_at bytes >>= λ refs. Ok (record { tags = s.tags; refs = Some refs }))

-- the way with a word more: T, N, or a letter that is skipped
unfoldable pub way_with : WaySoFar → List ℕ → Result WaySoFar PlainKind
way_with s word = tags_with s (behind 84 word) (refs_with s (behind 78 word) (if is_skipped word then Ok s else Err Field))

-- each coordinate that was read so far is one of the earth's
pub record IsInRange (s : NodeSoFar) : Type 0 where
  pub lat : IfSome s.lat (IsWithin most_lat)
  pub lon : IfSome s.lon (IsWithin most_lon)
