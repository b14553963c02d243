-- Ways (OSM wiki, "PBF Format": "Ways and relations").
use Rattle.std.specs.Prelude.{◌≡◌, ℕ, ◌%◌, ◌^◌, pos, List, [], ◌∷◌, Some, None, Ok, slice_get}
use Rattle.std.specs.List.{AllByRecursion}
use Rattle.gh_base.specs.declared.map.OsmTag.{OsmTag}
use Rattle.gh_base.specs.declared.map.OsmWay.{OsmWay}
use Rattle.gh_base.specs.Maps.{IsShort}
use Rattle.pbf_wire.specs.Ways.{way_of, way_with}
use Rattle.pbf_file_laws.specs.Messages.{Entry, IsMessage}
use Rattle.pbf_file_laws.specs.Saying.{scalar, Lists, differences, IsInt64}
use Rattle.pbf_file_laws.specs.Reading.{Stands}

-- key and value of each tag, as indices into the table of strings, of uint32
abbrev pub AreTags : List (List ℕ) → List ℕ → List ℕ → List OsmTag → Type 0
AreTags texts [] [] [] = Unit {0}
AreTags texts [] [] (tag ∷ tags) = ⊥
AreTags texts [] (value ∷ values) tags = ⊥
AreTags texts (key ∷ keys) [] tags = ⊥
AreTags texts (key ∷ keys) (value ∷ values) [] = ⊥
AreTags texts (key ∷ keys) (value ∷ values) (tag ∷ tags) =
    (slice_get texts (key % 2 ^ 32) ≡ Some tag.key) × (slice_get texts (value % 2 ^ 32) ≡ Some tag.value) × AreTags texts keys values tags

-- these bytes are a Way, and with these strings this way: id=1, keys=2, vals=3, refs=8, each the difference from the one before it
pub record IsWay (texts : List (List ℕ)) (bytes : List ℕ) (way : OsmWay) : Type 0 where
  pub entries : List Entry
  pub written : IsMessage bytes entries
  pub id : ℕ
  pub id_says : scalar 1 entries ≡ Some id
  pub id_is : IsInt64 id way.id
  pub short : IsShort way.id
  pub keys : List ℕ
  pub keys_say : Lists 2 entries keys
  pub values : List ℕ
  pub values_say : Lists 3 entries values
  pub tags : AreTags texts keys values way.tags
  pub refs : Lists 8 entries (differences (pos 0) way.refs)
  pub refs_short : AllByRecursion IsShort way.refs

-- a Way that stands somewhere is read as this way
abbrev pub WayReads : List (List ℕ) → List ℕ → ℕ → OsmWay → Type 0
WayReads texts bytes at way = ((way_of bytes at).bad ≡ None) × (way_with texts (way_of bytes at) ≡ Ok way)

abbrev pub WaysAreRead : Type 0
WaysAreRead = (texts : List (List ℕ)) (bytes content : List ℕ) (at : ℕ) (way : OsmWay) → Stands bytes at content → IsWay texts content way → WayReads texts bytes at way
