-- The areas of a model: a collection of features with different ids (RFC 7946, sections 3.2 and 3.3; GraphHopper
-- documentation, "Custom models", areas).
use Rattle.std.specs.Prelude.{ℕ, ◌+◌, Bool, false, not, ◌&&◌, List, [], ◌∷◌, ◌++◌, length, Option, Some, None, Ok, nat_le, codes, if◌then◌else◌}
use Rattle.std.specs.List.{list_all, list_any, sum_by}
use Rattle.std.specs.Str.{bytes_eq}
use Rattle.gh_base.specs.declared.kinds.Part.TheVariants as part
use Rattle.gh_base.specs.declared.kinds.ModelKind.TheVariants as kind
use Rattle.exact_json.specs.declared.value.Json.{Json}
use Rattle.exact_json.specs.declared.value.Member.{Member}
use Rattle.model_eval.specs.declared.custom_model.Area.{Area}
use Rattle.model_texts.specs.Tokens.{begins_word, in_word}
use Rattle.model_parser.specs.Faults.{Outcome, ◌>>=◌, ◌>>◌, pure, known, must}
use Rattle.model_parser.specs.Values.{object_of, array_of, find, text_at}
use Rattle.model_parser.specs.Outlines.{geometry_of, positions_in}
use Rattle.model_parser.specs.Rings.{rings_from}

-- letters, digits and underscores, no digit first
abbrev pub is_id : List ℕ → Bool
is_id [] = false
is_id (b ∷ bytes) = begins_word b && list_all in_word bytes

-- the text of the member `type` is this
abbrev pub is_called : List ℕ → Option (List ℕ) → Bool
is_called name (Some t) = bytes_eq t name
is_called name None = false

abbrev pub is_type : List ℕ → List Member → Bool
is_type name ms = is_called name (text_at (codes "type") ms)

-- an id, where it is one
abbrev pub id_in : Option (List ℕ) → Option (List ℕ)
id_in (Some id) = if is_id id then Some id else None
id_in None = None

-- the id of an object of type `Feature`
unfoldable pub id_of : List Member → Option (List ℕ)
id_of ms = if is_type (codes "Feature") ms then id_in (text_at (codes "id") ms) else None

abbrev pub object_in : Option Json → Option (List Member)
object_in (Some v) = object_of v
object_in None = None

-- the members of its geometry
abbrev pub geometry_in : List Member → Option (List Member)
geometry_in ms = object_in (find (codes "geometry") ms)

abbrev pub has_id : List Area → List ℕ → Bool
has_id areas id = list_any (λ a. bytes_eq a.id id) areas

-- how many positions these areas have
abbrev pub area_size : Area → ℕ
area_size a = sum_by length a.rings

abbrev pub positions_of : List Area → ℕ
positions_of areas = sum_by area_size areas

-- there may be 10000
abbrev pub have_room : List Area → List Json → Bool
have_room found polygons = nat_le (positions_of found + positions_in polygons) 10000

-- a feature, behind the areas that were found
unfoldable pub feature_of : ℕ → List Area → Json → Outcome Area
feature_of item found v = do
  members ← known part.Areas item kind.Feature (object_of v)
  id ← known part.Areas item kind.Feature (id_of members)
  geometry ← known part.Areas item kind.Feature (geometry_in members)
  must part.Areas item kind.TwiceId (not (has_id found id))
  polygons ← known part.Areas item kind.Geometry (geometry_of geometry)
  must part.Areas item kind.TooMany (have_room found polygons)
  rings ← rings_from item [] polygons
  pure (record { id = id; rings = rings })

-- features, from an item on, behind the areas that were found
abbrev pub features_from : ℕ → List Area → List Json → Outcome (List Area)
features_from item found [] = Ok found
features_from item found (v ∷ vs) = feature_of item found v >>= λ a. features_from (item + 1) (found ++ a ∷ []) vs

abbrev pub array_in : Option Json → Option (List Json)
array_in (Some v) = array_of v
array_in None = None

-- the features of a collection
abbrev pub features_in : List Member → Option (List Json)
features_in ms = if is_type (codes "FeatureCollection") ms then array_in (find (codes "features") ms) else None

-- a collection of at most 50 features
unfoldable pub collection_of : Json → Outcome (List Area)
collection_of v = do
  members ← known part.Areas 0 kind.NotObject (object_of v)
  features ← known part.Areas 0 kind.Feature (features_in members)
  must part.Areas 0 kind.TooMany (nat_le (length features) 50)
  features_from 1 [] features

-- the areas of a model; none where it has no such part
abbrev pub areas_of : Option Json → Outcome (List Area)
areas_of None = pure []
areas_of (Some v) = collection_of v
