-- Texts and their maps, and texts that are refused.
use Rattle.std.specs.Prelude.{◌≡◌, ℕ, ℤ, pos, negsuc, List, [], ◌∷◌, ◌++◌, Ok, Err, map, codes}
use Rattle.gh_base.specs.declared.kinds.PlainKind.{PlainKind}
use Rattle.gh_base.specs.declared.kinds.PlainKind.TheVariants.{Utf8, Line, Number, Escape, Tag, Place, Field, Missing}
use Rattle.gh_base.specs.declared.map.OsmTag.{OsmTag}
use Rattle.gh_base.specs.declared.map.OsmNode.{OsmNode}
use Rattle.gh_base.specs.declared.map.OsmWay.{OsmWay}
use Rattle.gh_base.specs.declared.map.OsmMap.{OsmMap}
use Rattle.plain_map.specs.declared.fault.PlainFault.TheVariants.{At}
use Rattle.plain_map.specs.Lines.{reads}

abbrev pub node : ℤ → ℤ → ℤ → OsmNode
node id lat lon = record { id = id; place = record { lat = lat; lon = lon } }

abbrev pub tag : List ℕ → List ℕ → OsmTag
tag key value = record { key = key; value = value }

abbrev pub way : ℤ → List OsmTag → List ℤ → OsmWay
way id tags refs = record { id = id; tags = tags; refs = refs }

abbrev pub map_of : List OsmNode → List OsmWay → OsmMap
map_of nodes ways = record { nodes = nodes; ways = ways }

abbrev pub samples : List (List ℕ × OsmMap)
samples =
    ([], map_of [] []) ∷
    (codes "n1 y2 x3", map_of (node (pos 1) (pos 20000000) (pos 30000000) ∷ []) []) ∷
    (codes "n-7 x-0.5 y1.0000001" ++ 10 ∷ [], map_of (node (negsuc 6) (pos 10000001) (negsuc 4999999) ∷ []) []) ∷
    (codes "n1 v1 dV c9 t2020 i1 uz Ta=b y0 x0", map_of (node (pos 1) (pos 0) (pos 0) ∷ []) []) ∷
    (codes "w5 Thighway=primary,name=a%20%b Nn1,n-2", map_of [] (way (pos 5) (tag (codes "highway") (codes "primary") ∷ tag (codes "name") (codes "a b") ∷ []) (pos 1 ∷ negsuc 1 ∷ []) ∷ [])) ∷
    (codes "w5 N T v1", map_of [] (way (pos 5) [] [] ∷ [])) ∷
    (codes "w5 Tk=%e9%%00E9%%65%", map_of [] (way (pos 5) (tag (codes "k") (195 ∷ 169 ∷ 195 ∷ 169 ∷ 101 ∷ []) ∷ []) [] ∷ [])) ∷
    (codes "# note" ++ 10 ∷ 10 ∷ codes "r1 whatever" ++ 10 ∷ codes "w2" ++ 10 ∷ codes "n3 y0 x0", map_of (node (pos 3) (pos 0) (pos 0) ∷ []) (way (pos 2) [] [] ∷ [])) ∷ []

abbrev pub MapsAreSo : Type 0
MapsAreSo = map (λ (s : List ℕ × OsmMap). reads s.0) samples ≡ map (λ (s : List ℕ × OsmMap). Ok s.1) samples

-- a text, the line and the byte of its first fault, and what is wrong there
pub record Refused : Type 0 where
  pub text : List ℕ
  pub line : ℕ
  pub byte : ℕ
  pub kind : PlainKind

abbrev pub refused : List Refused
refused =
    record { text = codes "n1 y0 x" ++ 255 ∷ []; line = 1; byte = 7; kind = Utf8 } ∷
    record { text = codes "z1"; line = 1; byte = 0; kind = Line } ∷
    record { text = codes "w1" ++ 10 ∷ codes " n1"; line = 2; byte = 0; kind = Line } ∷
    record { text = codes "n y0 x0"; line = 1; byte = 0; kind = Number } ∷
    record { text = codes "n1 y0 x1.23456789"; line = 1; byte = 6; kind = Number } ∷
    record { text = codes "w1 Nn1,2"; line = 1; byte = 3; kind = Number } ∷
    record { text = codes "w1 Tk=%zz%"; line = 1; byte = 3; kind = Escape } ∷
    record { text = codes "w1 Tk=v%"; line = 1; byte = 3; kind = Escape } ∷
    record { text = codes "w1 v1 Tk"; line = 1; byte = 6; kind = Tag } ∷
    record { text = codes "w1 Tk=%,k"; line = 1; byte = 3; kind = Tag } ∷
    record { text = codes "n1 x0 y90.0000001"; line = 1; byte = 6; kind = Place } ∷
    record { text = codes "n1 x-180.1 y0"; line = 1; byte = 3; kind = Place } ∷
    record { text = codes "n1 x0 y0 y0"; line = 1; byte = 9; kind = Field } ∷
    record { text = codes "n1  x0 y0"; line = 1; byte = 3; kind = Field } ∷
    record { text = codes "w1 x0"; line = 1; byte = 3; kind = Field } ∷
    record { text = codes "n1 y0"; line = 1; byte = 5; kind = Missing } ∷ []

abbrev pub FaultsStandSo : Type 0
FaultsStandSo = map (λ (r : Refused). reads r.text) refused ≡ map (λ (r : Refused). Err (At r.line r.byte r.kind)) refused
