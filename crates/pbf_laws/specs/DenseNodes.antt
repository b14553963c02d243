-- Dense nodes are the nodes that they are one by one (OSM wiki, "PBF Format": "Nodes").
use Rattle.std.specs.Prelude.{◌≡◌, ℕ, ◌+◌, ◌*◌, ℤ, pos, negsuc, ◌-ℤ◌, List, [], ◌∷◌, map, Some, None, Ok}
use Rattle.gh_base.specs.declared.map.OsmNode.{OsmNode}
use Rattle.pbf_wire.specs.declared.messages.Node.{Node}
use Rattle.pbf_wire.specs.declared.messages.Dense.{Dense}
use Rattle.pbf_wire.specs.declared.messages.Scale.{Scale}
use Rattle.pbf_wire.specs.Nodes.{node_with}
use Rattle.pbf_wire.specs.Dense.{dense_with}

-- a node's id and coordinates, before granularity and offset
pub record Written : Type 0 where
  pub id : ℤ
  pub lat : ℤ
  pub lon : ℤ

-- a number with a sign as a varint (Protocol Buffers, "Signed Integers")
abbrev pub sint : ℤ → ℕ
sint (pos n) = 2 * n
sint (negsuc n) = 2 * n + 1

-- as a Node at a place
abbrev pub plain : ℕ → Written → Node
plain place w = record { place = place; id = Some (sint w.id); lat = Some (sint w.lat); lon = Some (sint w.lon); bad = None }

-- each number less the one before it
abbrev pub differences : ℤ → List ℤ → List ℕ
differences last [] = []
differences last (z ∷ zs) = sint (z -ℤ last) ∷ differences z zs

-- as DenseNodes at a place, without tags
abbrev pub dense : ℕ → List Written → Dense
dense place ws = record { place = place; ids = differences (pos 0) (map (λ (w : Written). w.id) ws); lats = differences (pos 0) (map (λ (w : Written). w.lat) ws); lons = differences (pos 0) (map (λ (w : Written). w.lon) ws); tags = []; bad = None }

-- each of these is this node
abbrev pub AreRead : Scale → ℕ → List Written → List OsmNode → Type 0
AreRead scale place [] [] = Unit {0}
AreRead scale place (w ∷ ws) (n ∷ ns) = (node_with scale (plain place w) ≡ Ok n) × AreRead scale place ws ns
AreRead scale place [] (n ∷ ns) = ⊥
AreRead scale place (w ∷ ws) [] = ⊥

-- nodes that are read one by one are read from their differences
abbrev pub DenseNodesAreNodes : Type 0
DenseNodesAreNodes = (scale : Scale) (place : ℕ) (ws : List Written) (ns : List OsmNode) → AreRead scale place ws ns → dense_with scale (dense place ws) ≡ Ok ns
