-- A block of ways while it grows.
use Rattle.std.specs.Prelude.{◌≡◌, ◌<◌, ◌≤◌, Bool, true, false, List, [], ◌∷◌, ◌++◌, map, length}
use Rattle.gh_base.specs.declared.map.OsmWay.{OsmWay}
use Rattle.pbf_wire.specs.Parts.{Part, message_text}
use Rattle.pbf_wire.specs.Writing.{table_of, strings_text, way_text, ways_block}
use Rattle.pbf_writer.specs.declared.ways.WaysBlock.{WaysBlock}
use Rattle.pbf_writer.specs.Strings.{spelled}

-- its table and its group are those of these ways
pub record IsWrittenAs (ways : List OsmWay) (block : WaysBlock) : Type 0 where
  pub text : block.strings.text.items ≡ strings_text (table_of ways)
  pub group : block.group.items ≡ message_text (map (λ way. Part.Bytes 3 (way_text (table_of ways) way)) ways)

-- and so are its strings
pub record IsBlockOf (ways : List OsmWay) (block : WaysBlock) : Type 0 where
  pub words : spelled block.strings.words ≡ table_of ways
  pub written : IsWrittenAs ways block

-- the block has one way more, or would be too long with it
abbrev pub Tried : Bool → List OsmWay → OsmWay → WaysBlock → Type 0
Tried true ways way block = IsBlockOf (ways ++ way ∷ []) block × (length (ways_block (ways ++ way ∷ [])) ≤ 16777216)
Tried false ways way block = IsWrittenAs ways block × (16777216 < length (ways_block (ways ++ way ∷ [])))
