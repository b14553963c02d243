-- Reading tags (OSM wiki, "Tags"): a key has one value, and of a repeated key the first tag counts.
use Rattle.std.specs.Prelude.{ℕ, Bool, false, List, Option, find, bytes_eq}
use Rattle.std.specs.Option.{option_map, option_map_or}
use Rattle.gh_base.specs.declared.map.OsmTag.{OsmTag}

-- the value of a key
abbrev pub tag_of : List ℕ → List OsmTag → Option (List ℕ)
tag_of key tags = option_map (λ tag. tag.value) (find (λ tag. bytes_eq tag.key key) tags)

-- whether a text, where there is one, is this word
abbrev pub is_word : Option (List ℕ) → List ℕ → Bool
is_word text word = option_map_or (λ bytes. bytes_eq bytes word) text false
