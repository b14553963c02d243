-- What a line says, and the map that lines make.
use Rattle.std.specs.Prelude.{◌≡◌, ℕ, ◌+◌, ℤ, Bool, true, false, ◌||◌, List, [], ◌∷◌, ◌++◌, length, Option, Some, None, Result, Ok, Err, ◌==◌, unwrap_or, if◌then◌else◌}
use Rattle.std.specs.Str.Lossy.{utf8_valid_len}
use Rattle.gh_base.specs.declared.kinds.PlainKind.{PlainKind}
use Rattle.gh_base.specs.declared.kinds.PlainKind.TheVariants.{Utf8, Line, Number, Missing}
use Rattle.gh_base.specs.declared.map.OsmNode.{OsmNode}
use Rattle.gh_base.specs.declared.map.OsmMap.{OsmMap}
use Rattle.gh_base.specs.Decimals.{id_of}
use Rattle.gh_base.specs.Parts.{parts_of}
use Rattle.gh_base.specs.Places.{IsOnEarth}
use Rattle.plain_map.specs.declared.fault.LineFault.{LineFault}
use Rattle.plain_map.specs.declared.fault.LineFault.TheVariants as faults
use Rattle.plain_map.specs.declared.fault.PlainFault.{PlainFault}
use Rattle.plain_map.specs.declared.fault.PlainFault.TheVariants.{At}
use Rattle.plain_map.specs.declared.fields.NodeSoFar.{NodeSoFar}
use Rattle.plain_map.specs.declared.fields.WaySoFar.{WaySoFar}
use Rattle.plain_map.specs.declared.line.Item.{Item}
use Rattle.plain_map.specs.declared.line.Item.TheVariants.{Node, Way}
use Rattle.plain_map.specs.Escapes.{◌>>=◌}
use Rattle.plain_map.specs.Fields.{behind, or_kind, node_with, way_with}

-- a fault has its byte in the line, and its kind
abbrev pub at_byte : {A : Type 0} → ℕ → Result A PlainKind → Result A (ℕ × PlainKind)
at_byte byte (Ok x) = Ok x
at_byte byte (Err kind) = Err (byte, kind)

-- what a function returned is what a reading gives, unless memory ran out
abbrev pub FailsAt : {X : Type 0} → LineFault → Result X (ℕ × PlainKind) → Type 0
FailsAt faults.NoMemory read = Unit {0}
FailsAt (faults.At byte kind) read = read ≡ Err (byte, kind)

abbrev pub GivesAt : {X : Type 0} → Result X LineFault → Result X (ℕ × PlainKind) → Type 0
GivesAt (Ok x) read = read ≡ Ok x
GivesAt (Err fault) read = FailsAt fault read

-- the words from this byte on, one after another
abbrev pub node_words : NodeSoFar → ℕ → List (List ℕ) → Result NodeSoFar (ℕ × PlainKind)
node_words s byte [] = Ok s
node_words s byte (word ∷ words) = do
  t ← at_byte byte (node_with s word)
  node_words t (byte + length word + 1) words

abbrev pub way_words : WaySoFar → ℕ → List (List ℕ) → Result WaySoFar (ℕ × PlainKind)
way_words s byte [] = Ok s
way_words s byte (word ∷ words) = do
  t ← at_byte byte (way_with s word)
  way_words t (byte + length word + 1) words

-- a node has both coordinates
abbrev pub node_done : ℤ → ℕ → Option ℤ → Option ℤ → Result OsmNode (ℕ × PlainKind)
node_done id end (Some lat) (Some lon) = Ok (record { id = id; place = record { lat = lat; lon = lon } })
node_done id end (Some lat) None = Err (end, Missing)
node_done id end None lon = Err (end, Missing)

-- a node's id, and its words
unfoldable pub node_line : ℕ → List ℕ → List (List ℕ) → Result Item (ℕ × PlainKind)
node_line end digits words = do
  id ← at_byte 0 (or_kind Number (id_of digits))
  s ← node_words (record { lat = None; lon = None; tagged = false }) (length digits + 2) words
  node ← node_done id end s.lat s.lon
  Ok (Node node)

-- a way's id, and its words
unfoldable pub way_line : List ℕ → List (List ℕ) → Result Item (ℕ × PlainKind)
way_line digits words = do
  id ← at_byte 0 (or_kind Number (id_of digits))
  s ← way_words (record { tags = None; refs = None }) (length digits + 2) words
  Ok (Way (record { id = id; tags = unwrap_or s.tags []; refs = unwrap_or s.refs [] }))

-- by the letter of the first word: n for a node, w for a way
abbrev pub item_by : ℕ → Option (List ℕ) → Option (List ℕ) → List (List ℕ) → Result Item (ℕ × PlainKind)
item_by end (Some digits) way words = node_line end digits words
item_by end None (Some digits) words = way_line digits words
item_by end None None words = Err (0, Line)

abbrev pub item_of : ℕ → List (List ℕ) → Result Item (ℕ × PlainKind)
item_of end [] = Err (0, Line)
item_of end (first ∷ words) = item_by end (behind 110 first) (behind 119 first) words

-- empty, or begun by # or r
abbrev pub is_passed : List ℕ → Bool
is_passed [] = true
is_passed (b ∷ bytes) = b == 35 || b == 114

abbrev pub some_item : Item → Result (Option Item) (ℕ × PlainKind)
some_item item = Ok (Some item)

-- what a line says: an item, nothing, or its first fault
unfoldable pub line_at : List ℕ → Result (Option Item) (ℕ × PlainKind)
line_at line =
    if is_passed line then Ok None
    else if utf8_valid_len line == length line then (item_of (length line) (parts_of 32 line) >>= some_item)
    else Err (utf8_valid_len line, Utf8)

abbrev pub with_item : OsmMap → Option Item → OsmMap
with_item m None = m
with_item m (Some (Node node)) = record { nodes = m.nodes ++ node ∷ []; ways = m.ways }
with_item m (Some (Way way)) = record { nodes = m.nodes; ways = m.ways ++ way ∷ [] }

abbrev pub at_line : {A : Type 0} → ℕ → Result A (ℕ × PlainKind) → Result A PlainFault
at_line number (Ok x) = Ok x
at_line number (Err fault) = Err (At number fault.0 fault.1)

-- the map that the lines from this number on make of a map, or the first fault
abbrev pub reads_from : ℕ → OsmMap → List (List ℕ) → Result OsmMap PlainFault
reads_from number m [] = Ok m
reads_from number m (line ∷ lines) = do
  item ← at_line number (line_at line)
  reads_from (number + 1) (with_item m item) lines

-- the map that these bytes are, or their first fault
unfoldable pub reads : List ℕ → Result OsmMap PlainFault
reads bytes = reads_from 1 (record { nodes = []; ways = [] }) (parts_of 10 bytes)

-- where it is a node, its place is one of the earth's
abbrev pub IsItemOnEarth : Item → Type 0
IsItemOnEarth (Node node) = IsOnEarth node.place
IsItemOnEarth (Way way) = Unit {0}
