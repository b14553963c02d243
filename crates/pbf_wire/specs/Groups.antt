-- A PrimitiveGroup: nodes=1 repeated, dense=2, ways=3 repeated (OSM wiki, "PBF Format": "Definition of the OSMData fileblock").
use Rattle.std.specs.Prelude.{ℕ, List, [], ◌∷◌, ◌++◌, take, Bool, true, not, ◌&&◌, Option, None, Result, Ok, if◌then◌else◌}
use Rattle.gh_base.specs.declared.kinds.PbfKind.{PbfKind}
use Rattle.gh_base.specs.declared.map.OsmMap.{OsmMap}
use Rattle.pbf_wire.specs.declared.fields.Spot.{Spot}
use Rattle.pbf_wire.specs.declared.fields.Piece.{Piece}
use Rattle.pbf_wire.specs.declared.messages.Message.{Message}
use Rattle.pbf_wire.specs.declared.messages.Message.TheVariants.{Node, Dense, Way}
use Rattle.pbf_wire.specs.declared.messages.Group.{Group}
use Rattle.pbf_wire.specs.declared.messages.Scale.{Scale}
use Rattle.pbf_wire.specs.declared.messages.GroupSoFar.{GroupSoFar}
use Rattle.pbf_wire.specs.Wire.{◌>>=◌}
use Rattle.pbf_wire.specs.Runs.{run_of, least}
use Rattle.pbf_wire.specs.Pieces.{is_bytes, pieces_of}
use Rattle.pbf_wire.specs.Nodes.{node_of, node_with}
use Rattle.pbf_wire.specs.Dense.{dense_of, dense_with}
use Rattle.pbf_wire.specs.Ways.{way_of, way_with}

abbrev pub no_messages : Group
no_messages = record { messages = []; bad = None }

-- messages one behind another, with the lesser bad key
abbrev pub after : Group → Group → Group
after one other = record { messages = one.messages ++ other.messages; bad = least one.bad other.bad }

abbrev pub only : Message → Option ℕ → Group
only message bad = record { messages = message ∷ []; bad = bad }

-- the message that a field is; all dense values of the group together are one, which stands at the first
unfoldable pub message_in : List ℕ → List Piece → Bool → Spot → Group
message_in bytes dense first spot =
    if is_bytes 1 spot then (let node = node_of (take spot.field.end bytes) spot.field.start in only (Node node) node.bad)
    else if is_bytes 3 spot then (let way = way_of (take spot.field.end bytes) spot.field.start in only (Way way) way.bad)
    else if is_bytes 2 spot && first then (let all = dense_of bytes dense spot.field.start in only (Dense all) all.bad)
    else no_messages

-- the messages that these fields are; whether no dense value came before them
abbrev pub messages_of : List ℕ → List Piece → Bool → List Spot → Group
messages_of bytes dense first [] = no_messages
messages_of bytes dense first (spot ∷ spots) =
    after (message_in bytes dense first spot) (messages_of bytes dense (first && not (is_bytes 2 spot)) spots)

-- the group from a place to the end, as it is written
unfoldable pub group_of : List ℕ → ℕ → Group
group_of bytes at =
    let run = run_of bytes at in
    let all = messages_of bytes (pieces_of 2 run.fields) true run.fields in
    record { messages = all.messages; bad = least all.bad run.bad }

-- a map with one message more, or the first fault of the message
unfoldable pub message_with : List (List ℕ) → Scale → GroupSoFar → Message → Result GroupSoFar (ℕ × PbfKind)
message_with texts scale s (Node node) = node_with scale node >>= λ n. Ok (record { map = record { nodes = s.map.nodes ++ n ∷ []; ways = s.map.ways }; dense = s.dense })
message_with texts scale s (Dense dense) = dense_with scale dense >>= λ nodes. Ok (record { map = s.map; dense = s.dense ++ nodes })
message_with texts scale s (Way way) = way_with texts way >>= λ w. Ok (record { map = record { nodes = s.map.nodes; ways = s.map.ways ++ w ∷ [] }; dense = s.dense })

-- a map with these messages, in order
abbrev pub messages_with : List (List ℕ) → Scale → GroupSoFar → List Message → Result GroupSoFar (ℕ × PbfKind)
messages_with texts scale s [] = Ok s
messages_with texts scale s (message ∷ messages) = message_with texts scale s message >>= λ t. messages_with texts scale t messages

-- the nodes of a group come first, and then its dense ones
abbrev pub closed : GroupSoFar → OsmMap
closed s = record { nodes = s.map.nodes ++ s.dense; ways = s.map.ways }

-- a map with a group more, or the first fault of the group
unfoldable pub group_with : List (List ℕ) → Scale → OsmMap → Group → Result OsmMap (ℕ × PbfKind)
group_with texts scale m group = messages_with texts scale (record { map = m; dense = [] }) group.messages >>= λ s. Ok (closed s)
