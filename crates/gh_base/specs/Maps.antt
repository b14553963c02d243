-- Which maps a text or a file can say: ids have at most eighteen digits, and places are on the earth.
use Rattle.std.specs.Prelude.{ℤ, nat_abs, ◌<◌, ◌^◌, All, IsUtf8}
use Rattle.gh_base.specs.declared.map.OsmTag.{OsmTag}
use Rattle.gh_base.specs.declared.map.OsmNode.{OsmNode}
use Rattle.gh_base.specs.declared.map.OsmWay.{OsmWay}
use Rattle.gh_base.specs.declared.map.OsmMap.{OsmMap}
use Rattle.gh_base.specs.Places.{IsOnEarth}

-- an id of at most eighteen digits
abbrev pub IsShort : ℤ → Type 0
IsShort id = nat_abs id < 10 ^ 18

-- a node that can be said
pub record IsFileNode (node : OsmNode) : Type 0 where
  pub id : IsShort node.id
  pub place : IsOnEarth node.place

-- a way whose ids can be said
pub record IsFileWay (way : OsmWay) : Type 0 where
  pub id : IsShort way.id
  pub refs : All IsShort way.refs

-- a map of such nodes and ways, as it is read
pub record IsFileMap (m : OsmMap) : Type 0 where
  pub nodes : All IsFileNode m.nodes
  pub ways : All IsFileWay m.ways

-- a tag of two texts
pub record IsTextTag (tag : OsmTag) : Type 0 where
  pub key : IsUtf8 tag.key
  pub value : IsUtf8 tag.value

-- a way that can be said whole
pub record IsTextWay (way : OsmWay) : Type 0 where
  pub ids : IsFileWay way
  pub tags : All IsTextTag way.tags
