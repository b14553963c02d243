-- Blobs only add to a map.
use Rattle.std.proofs.Common.{◌∙◌, ℕ, ◌+◌, zero, suc, List, [], ◌∷◌, ◌++◌, length, take, Bool, false, ltb, Ok, Err, sym, ap, append_assoc, append-nil}
use Rattle.std.specs.Prelude.{IfOk, codes, if◌then◌else◌}
use Rattle.gh_base.specs.declared.kinds.PbfKind.TheVariants.{NoHeader}
use Rattle.gh_base.specs.declared.map.OsmNode.{OsmNode}
use Rattle.gh_base.specs.declared.map.OsmWay.{OsmWay}
use Rattle.gh_base.specs.declared.map.OsmMap.{OsmMap}
use Rattle.pbf_wire.specs.declared.fields.Piece.{Piece}
use Rattle.pbf_wire.specs.declared.messages.Scale.{Scale}
use Rattle.pbf_wire.specs.declared.messages.Message.{Message}
use Rattle.pbf_wire.specs.declared.messages.Message.TheVariants as messages
use Rattle.pbf_wire.specs.declared.messages.Group.{Group}
use Rattle.pbf_wire.specs.declared.messages.GroupSoFar.{GroupSoFar}
use Rattle.pbf_wire.specs.declared.messages.BlobHeader.{BlobHeader}
use Rattle.pbf_wire.specs.Wire.{◌>>=◌}
use Rattle.pbf_wire.specs.Faults.{◌>>◌, is_run}
use Rattle.pbf_wire.specs.Nodes.{node_with}
use Rattle.pbf_wire.specs.Dense.{dense_with}
use Rattle.pbf_wire.specs.Ways.{way_with}
use Rattle.pbf_wire.specs.Groups.{message_with, messages_with, closed, group_with}
use Rattle.pbf_wire.specs.Blocks.{block_of, texts_in, scale_of, groups_with, block_with}
use Rattle.pbf_wire.specs.Headers.{header_block}
use Rattle.pbf_wire.specs.Blobs.{header_at, is_named, content_at, blob_with}
use Rattle.pbf_wire.specs.Files.{at_end, blobs_from}
use Rattle.pbf_cuts.specs.Cuts.{Begins, IsFirstOf}
use Rattle.pbf_cuts.proofs.Steps.{after_step, after_fact, after_skip, after_if}

same_list : {A : Type 0} (part : List A) → Begins part part
same_list part = record { more = []; joined = sym (append-nil part) }

longer_list : {A : Type 0} (part whole more : List A) → Begins part whole → Begins part (whole ++ more)
longer_list part whole more b = record { more = b.more ++ more; joined = ap (λ l. l ++ more) b.joined ∙ append_assoc part b.more more }

pub same_map : (m : OsmMap) → IsFirstOf m m
same_map m = record { nodes = same_list m.nodes; ways = same_list m.ways }

more_nodes : (m n : OsmMap) (nodes : List OsmNode) → IsFirstOf m n → IsFirstOf m (record { nodes = n.nodes ++ nodes; ways = n.ways })
more_nodes m n nodes f = record { nodes = longer_list m.nodes n.nodes nodes f.nodes; ways = f.ways }

more_ways : (m n : OsmMap) (ways : List OsmWay) → IsFirstOf m n → IsFirstOf m (record { nodes = n.nodes; ways = n.ways ++ ways })
more_ways m n ways f = record { nodes = f.nodes; ways = longer_list m.ways n.ways ways f.ways }

-- the map of a group so far begins with this one
abbrev pub HasGrown : OsmMap → GroupSoFar → Type 0
HasGrown m s = IsFirstOf m s.map

message_grows : (m : OsmMap) (texts : List (List ℕ)) (scale : Scale) (s : GroupSoFar) (message : Message) → HasGrown m s → IfOk (message_with texts scale s message) (HasGrown m)
unfolding message_with
message_grows m texts scale s (messages.Node node) f =
    after_step (node_with scale node) (λ n. Ok (record { map = record { nodes = s.map.nodes ++ n ∷ []; ways = s.map.ways }; dense = s.dense })) (HasGrown m) (λ n is. more_nodes m s.map (n ∷ []) f)
message_grows m texts scale s (messages.Dense dense) f =
    after_step (dense_with scale dense) (λ nodes. Ok (record { map = s.map; dense = s.dense ++ nodes })) (HasGrown m) (λ nodes is. f)
message_grows m texts scale s (messages.Way way) f =
    after_step (way_with texts way) (λ w. Ok (record { map = record { nodes = s.map.nodes; ways = s.map.ways ++ w ∷ [] }; dense = s.dense })) (HasGrown m) (λ w is. more_ways m s.map (w ∷ []) f)

messages_grow : (m : OsmMap) (texts : List (List ℕ)) (scale : Scale) (s : GroupSoFar) (messages : List Message) → HasGrown m s → IfOk (messages_with texts scale s messages) (HasGrown m)
messages_grow m texts scale s [] f = f
messages_grow m texts scale s (message ∷ messages) f =
    after_fact (message_with texts scale s message) (λ t. messages_with texts scale t messages) (HasGrown m) (HasGrown m) (message_grows m texts scale s message f) (λ t grown. messages_grow m texts scale t messages grown)

group_grows : (m n : OsmMap) (texts : List (List ℕ)) (scale : Scale) (group : Group) → IsFirstOf m n → IfOk (group_with texts scale n group) (IsFirstOf m)
unfolding group_with
group_grows m n texts scale group f =
    after_fact (messages_with texts scale (record { map = n; dense = [] }) group.messages) (λ s. Ok (closed s)) (HasGrown m) (IsFirstOf m) (messages_grow m texts scale (record { map = n; dense = [] }) group.messages f) (λ s grown. more_nodes m s.map s.dense grown)

groups_grow : (m n : OsmMap) (texts : List (List ℕ)) (scale : Scale) (groups : List Group) → IsFirstOf m n → IfOk (groups_with texts scale n groups) (IsFirstOf m)
groups_grow m n texts scale [] f = f
groups_grow m n texts scale (group ∷ groups) f =
    after_fact (group_with texts scale n group) (λ o. groups_with texts scale o groups) (IsFirstOf m) (IsFirstOf m) (group_grows m n texts scale group f) (λ o grown. groups_grow m o texts scale groups grown)

block_grows : (m n : OsmMap) (file : List ℕ) (piece : Piece) → IsFirstOf m n → IfOk (block_with file n piece) (IsFirstOf m)
unfolding block_with
block_grows m n file piece f =
    let block = block_of (take piece.end file) piece.start in
    let texts = texts_in block.table block.pieces block.strings in
    after_skip (is_run block.bad) (texts >>= λ t. groups_with t (scale_of block) n block.groups) (IsFirstOf m) (
    after_step texts (λ t. groups_with t (scale_of block) n block.groups) (IsFirstOf m) (λ t is. groups_grow m n t (scale_of block) block.groups f))

blob_grows : (m n : OsmMap) (file : List ℕ) (header : BlobHeader) → IsFirstOf m n → IfOk (blob_with file n header) (IsFirstOf m)
unfolding blob_with
blob_grows m n file header f =
    let content = content_at file header.end (header.end + header.datasize) in
    let as_header = content >>= λ piece. header_block file piece >> Ok n in
    let as_block = content >>= λ piece. block_with file n piece in
    let is_data = is_named (codes "OSMData") file header.name in
    after_if (is_named (codes "OSMHeader") file header.name) as_header (if is_data then as_block else Ok n) (IsFirstOf m)
    (λ e. after_step content (λ piece. header_block file piece >> Ok n) (IsFirstOf m) (λ piece is. after_skip (header_block file piece) (Ok n) (IsFirstOf m) f))
    (λ e. after_if is_data as_block (Ok n) (IsFirstOf m) (λ g. after_step content (λ piece. block_with file n piece) (IsFirstOf m) (λ piece is. block_grows m n file piece f)) (λ g. f))

-- what is read so far are the first nodes and ways of what the rest gives
pub blobs_grow : (most : ℕ) (m n : OsmMap) (file : List ℕ) (first : Bool) (at : ℕ) → IsFirstOf m n → IfOk (blobs_from most file first n at) (IsFirstOf m)
blobs_grow zero m n file first at f = after_if first (Err (at, NoHeader)) (Ok n) (IsFirstOf m) (λ e. tt) (λ e. f)
blobs_grow (suc most) m n file first at f =
    let behind = λ (header : BlobHeader) (o : OsmMap). blobs_from most file false o (header.end + header.datasize) in
    let next = λ (header : BlobHeader). blob_with file n header >>= λ o. behind header o in
    after_if (ltb at (length file)) (header_at file first at >>= λ header. next header) (at_end first at n) (IsFirstOf m)
    (λ e. after_step (header_at file first at) (λ header. next header) (IsFirstOf m) (λ header is.
    after_fact (blob_with file n header) (λ o. behind header o) (IsFirstOf m) (IsFirstOf m) (blob_grows m n file header f) (λ o grown. blobs_grow most m o file false (header.end + header.datasize) grown)))
    (λ e. after_if first (Err (at, NoHeader)) (Ok n) (IsFirstOf m) (λ g. tt) (λ g. f))
