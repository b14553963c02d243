-- The text of a map (after OPL, "OPL File Format Manual"), which is read as the same map again.
use Rattle.std.specs.Prelude.{ℕ, suc, zero, ◌+◌, ◌/◌, ◌%◌, ◌^◌, ℤ, pos, negsuc, Bool, false, ◌||◌, List, [], ◌∷◌, ◌++◌, map, codes, ◌==◌, nat_le, All, if◌then◌else◌}
use Rattle.std.specs.Fmt.{decimal, signed_decimal, digits}
use Rattle.gh_base.specs.declared.map.Point.{Point}
use Rattle.gh_base.specs.declared.map.OsmTag.{OsmTag}
use Rattle.gh_base.specs.declared.map.OsmNode.{OsmNode}
use Rattle.gh_base.specs.declared.map.OsmWay.{OsmWay}
use Rattle.gh_base.specs.declared.map.OsmMap.{OsmMap}
use Rattle.gh_base.specs.Maps.{IsFileNode, IsTextWay}

-- the digits behind the dot, as many as it takes, of a number of so many places
unfoldable pub places_text : ℕ → ℕ → List ℕ
places_text zero n = []
places_text (suc places) n = if n == 0 then [] else (48 + n / 10 ^ places) ∷ places_text places (n % 10 ^ places)

-- a dot before digits, where there are any
abbrev pub dotted : List ℕ → List ℕ
dotted [] = []
dotted (b ∷ bytes) = 46 ∷ b ∷ bytes

-- degrees, of 1e-7 degree
abbrev pub degrees_text : ℕ → List ℕ
degrees_text n = decimal (n / 10000000) ++ dotted (places_text 7 (n % 10000000))

abbrev pub coordinate_text : ℤ → List ℕ
coordinate_text (pos n) = degrees_text n
coordinate_text (negsuc n) = 45 ∷ degrees_text (suc n)

-- what is below a space, the space, and % , = @ and the delete character
abbrev pub is_escaped : ℕ → Bool
is_escaped b = nat_le b 32 || b == 37 || b == 44 || b == 61 || b == 64 || b == 127

-- a byte of a key or a value; an escape is its number in lower-case hexadecimal digits between percent signs
abbrev pub escape : ℕ → List ℕ
escape b = if is_escaped b then 37 ∷ digits 16 false b ++ 37 ∷ [] else b ∷ []

abbrev pub escaped : List ℕ → List ℕ
escaped [] = []
escaped (b ∷ bytes) = escape b ++ escaped bytes

abbrev pub tag_text : OsmTag → List ℕ
tag_text tag = escaped tag.key ++ 61 ∷ escaped tag.value

abbrev pub ref_text : ℤ → List ℕ
ref_text id = 110 ∷ signed_decimal id

-- the first part behind this lead, each other behind a comma; no part, no lead
abbrev pub listed : List ℕ → List (List ℕ) → List ℕ
listed lead [] = []
listed lead (part ∷ parts) = lead ++ (part ++ listed (codes ",") parts)

abbrev pub place_text : Point → List ℕ
place_text place = codes " y" ++ (coordinate_text place.lat ++ (codes " x" ++ coordinate_text place.lon))

unfoldable pub node_text : OsmNode → List ℕ
node_text node = 110 ∷ signed_decimal node.id ++ place_text node.place

unfoldable pub way_text : OsmWay → List ℕ
way_text way = 119 ∷ signed_decimal way.id ++ (listed (codes " T") (map tag_text way.tags) ++ listed (codes " N") (map ref_text way.refs))

-- each line, and a newline behind it
abbrev pub lines_text : List (List ℕ) → List ℕ
lines_text [] = []
lines_text (line ∷ lines) = line ++ 10 ∷ lines_text lines

-- all nodes in order, and then all ways
abbrev pub plain_text : OsmMap → List ℕ
plain_text m = lines_text (map node_text m.nodes) ++ lines_text (map way_text m.ways)

-- a map that its text can say
pub record IsPrintable (m : OsmMap) : Type 0 where
  pub nodes : All IsFileNode m.nodes
  pub ways : All IsTextWay m.ways
