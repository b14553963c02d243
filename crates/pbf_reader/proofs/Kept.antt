-- A map that is read is one that a file can say.
use Rattle.std.proofs.lemmas.Bool.Decides.{nat_tests}
use Rattle.std.proofs.lemmas.List.Elements.{All-nil, All-cons, All-head, All-tail, All-push, All-append, All-weaker}
use Rattle.std.proofs.Common.{◌≡◌, ℕ, ◌+◌, ◌≤◌, zero, suc, ℤ, pos, negsuc, neg_ℤ, ◌+ℤ◌, ◌*ℤ◌, ◌≤ℤ◌, nat_abs, List, [], ◌∷◌, ◌++◌, length, Bool, true, false, not, ◌&&◌, ◌||◌, ltb, leb, Some, None, Result, Ok, Err, refl, subst, arith}
use Rattle.std.specs.Prelude.{All, IfOk, ◌==◌, take, codes, if◌then◌else◌}
use Rattle.std.specs.Int.{int_div_euclid, cast_signed, w64}
use Rattle.gh_base.specs.declared.kinds.PbfKind.{PbfKind}
use Rattle.gh_base.specs.declared.kinds.PbfKind.TheVariants.{NoHeader, Missing, Uneven, OddKeys, BadId, BadPlace}
use Rattle.gh_base.specs.declared.map.OsmTag.{OsmTag}
use Rattle.gh_base.specs.declared.map.OsmNode.{OsmNode}
use Rattle.gh_base.specs.declared.map.OsmWay.{OsmWay}
use Rattle.gh_base.specs.declared.map.OsmMap.{OsmMap}
use Rattle.gh_base.specs.Places.{IsOnEarth}
use Rattle.pbf_wire.specs.declared.fields.Piece.{Piece}
use Rattle.pbf_wire.specs.declared.messages.Axis.{Axis}
use Rattle.pbf_wire.specs.declared.messages.Scale.{Scale}
use Rattle.pbf_wire.specs.declared.messages.Node.{Node}
use Rattle.pbf_wire.specs.declared.messages.Dense.{Dense}
use Rattle.pbf_wire.specs.declared.messages.Way.{Way}
use Rattle.pbf_wire.specs.declared.messages.Message.{Message}
use Rattle.pbf_wire.specs.declared.messages.Message.TheVariants as messages
use Rattle.pbf_wire.specs.declared.messages.Group.{Group}
use Rattle.pbf_wire.specs.declared.messages.GroupSoFar.{GroupSoFar}
use Rattle.pbf_wire.specs.declared.messages.BlobHeader.{BlobHeader}
use Rattle.pbf_wire.specs.Wire.{◌>>=◌}
use Rattle.pbf_wire.specs.Faults.{◌>>◌, refuse, or_fault, is_run}
use Rattle.pbf_wire.specs.Deltas.{zigzag_of, is_id, ids_from, coordinate_of, coordinates_from}
use Rattle.pbf_wire.specs.Nodes.{lat_axis, lon_axis, node_with}
use Rattle.pbf_wire.specs.Dense.{tags_fit, nodes_of, dense_with}
use Rattle.pbf_wire.specs.Ways.{tags_of, way_with}
use Rattle.pbf_wire.specs.Groups.{message_with, messages_with, closed, group_with}
use Rattle.pbf_wire.specs.Blocks.{block_of, texts_in, scale_of, groups_with, block_with}
use Rattle.pbf_wire.specs.Headers.{header_block}
use Rattle.pbf_wire.specs.Blobs.{header_at, is_named, content_at, blob_with}
use Rattle.pbf_wire.specs.Files.{at_end, blobs_from, reads}
use Rattle.gh_base.specs.Maps.{IsShort, IsFileNode, IsFileWay, IsFileMap}
use Rattle.pbf_reader.specs.declared.fault.PbfFault.{PbfFault}
use Rattle.pbf_reader.specs.Reading.{Gives}

-- steps: what holds of each answer that they can give

bound : {A B K : Type 0} (r : Result A K) (f : A → Result B K) (P : A → Type 0) (Q : B → Type 0) → IfOk r P → ((x : A) → P x → IfOk (f x) Q) → IfOk (r >>= f) Q
bound (Ok x) f P Q p h = h x p
bound (Err k) f P Q p h = tt

any : {A B K : Type 0} (r : Result A K) (f : A → Result B K) (Q : B → Type 0) → ((x : A) → IfOk (f x) Q) → IfOk (r >>= f) Q
any (Ok x) f Q h = h x
any (Err k) f Q h = tt

pass : {A B K : Type 0} (r : Result A K) (rest : Result B K) (Q : B → Type 0) → IfOk rest Q → IfOk (r >> rest) Q
pass (Ok x) rest Q h = h
pass (Err k) rest Q h = tt

unrefused : {B : Type 0} (test : Bool) (byte : ℕ) (kind : PbfKind) (rest : Result B (ℕ × PbfKind)) (Q : B → Type 0) → (test ≡ false → IfOk rest Q) → IfOk (refuse test byte kind >> rest) Q
unrefused true byte kind rest Q h = tt
unrefused false byte kind rest Q h = h refl

either : {B K : Type 0} (test : Bool) (a b : Result B K) (Q : B → Type 0) → IfOk a Q → IfOk b Q → IfOk (if test then a else b) Q
either true a b Q p q = p
either false a b Q p q = q

-- ids and coordinates

short_of : (id : ℤ) → not (is_id id) ≡ false → IsShort id
short_of id fine = grind (arith, nat_tests)

ids_kept : (place : ℕ) (last : ℤ) (deltas : List ℕ) → IfOk (ids_from place last deltas) (All IsShort)
ids_kept place last [] = All-nil IsShort
ids_kept place last (delta ∷ deltas) =
    let id = last +ℤ zigzag_of delta in
    unrefused (not (is_id id)) place BadId (ids_from place id deltas >>= λ ids. Ok (id ∷ ids)) (All IsShort) (λ fine.
    bound (ids_from place id deltas) (λ ids. Ok (id ∷ ids)) (All IsShort) (All IsShort) (ids_kept place id deltas) (λ ids short.
    All-cons IsShort id ids (short_of id fine) short))

-- at most so far from 0
abbrev pub IsNear : ℕ → ℤ → Type 0
IsNear most unit = nat_abs unit ≤ most

near_by : {B : Type 0} (test : Bool) (most : ℕ) (unit : ℤ) (byte : ℕ) (kind : PbfKind) (f : ℤ → Result B (ℕ × PbfKind)) (Q : B → Type 0) → leb (nat_abs unit) most ≡ test →
    ((y : ℤ) → IsNear most y → IfOk (f y) Q) → IfOk (or_fault (if test then Some unit else None) byte kind >>= f) Q
near_by true most unit byte kind f Q e h = h unit (grind (arith, nat_tests))
near_by false most unit byte kind f Q e h = tt

near : {B : Type 0} (axis : Axis) (value : ℤ) (byte : ℕ) (kind : PbfKind) (f : ℤ → Result B (ℕ × PbfKind)) (Q : B → Type 0) →
    ((y : ℤ) → IsNear axis.most y → IfOk (f y) Q) → IfOk (or_fault (coordinate_of axis value) byte kind >>= f) Q
unfolding coordinate_of
near axis value byte kind f Q h =
    let unit = int_div_euclid (axis.granularity *ℤ value +ℤ axis.offset) (pos 100) in
    near_by (leb (nat_abs unit) axis.most) axis.most unit byte kind f Q refl h

coordinates_kept : (place : ℕ) (axis : Axis) (last : ℤ) (deltas : List ℕ) → IfOk (coordinates_from place axis last deltas) (All (IsNear axis.most))
coordinates_kept place axis last [] = All-nil (IsNear axis.most)
coordinates_kept place axis last (delta ∷ deltas) =
    let value = last +ℤ zigzag_of delta in
    near axis value place BadPlace (λ unit. coordinates_from place axis value deltas >>= λ units. Ok (unit ∷ units)) (All (IsNear axis.most)) (λ unit near_unit.
    bound (coordinates_from place axis value deltas) (λ units. Ok (unit ∷ units)) (All (IsNear axis.most)) (All (IsNear axis.most)) (coordinates_kept place axis value deltas) (λ units all.
    All-cons (IsNear axis.most) unit units near_unit all))

-- nodes

south : (z : ℤ) → nat_abs z ≤ 900000000 → neg_ℤ (pos 900000000) ≤ℤ z
south (pos n) h = grind (arith, nat_tests)
south (negsuc n) h = grind (arith, nat_tests)

north : (z : ℤ) → nat_abs z ≤ 900000000 → z ≤ℤ pos 900000000
north (pos n) h = grind (arith, nat_tests)
north (negsuc n) h = grind (arith, nat_tests)

west : (z : ℤ) → nat_abs z ≤ 1800000000 → neg_ℤ (pos 1800000000) ≤ℤ z
west (pos n) h = grind (arith, nat_tests)
west (negsuc n) h = grind (arith, nat_tests)

east : (z : ℤ) → nat_abs z ≤ 1800000000 → z ≤ℤ pos 1800000000
east (pos n) h = grind (arith, nat_tests)
east (negsuc n) h = grind (arith, nat_tests)

is_node : (id lat lon : ℤ) → IsShort id → IsNear 900000000 lat → IsNear 1800000000 lon → IsFileNode (record { id = id; place = record { lat = lat; lon = lon } })
is_node id lat lon short y x = record { id = short; place = record { south = south lat y; north = north lat y; west = west lon x; east = east lon x } }

node_kept : (scale : Scale) (node : Node) → IfOk (node_with scale node) IsFileNode
unfolding node_with
node_kept scale node =
    let made : ℕ → ℤ → ℤ → Result OsmNode (ℕ × PbfKind) = λ id y x. Ok (record { id = zigzag_of id; place = record { lat = y; lon = x } }) in
    let with_lon = λ (id lon : ℕ) (y : ℤ). or_fault (coordinate_of (lon_axis scale) (zigzag_of lon)) node.place BadPlace >>= λ x. made id y x in
    let with_lat = λ (id lat lon : ℕ). or_fault (coordinate_of (lat_axis scale) (zigzag_of lat)) node.place BadPlace >>= λ y. with_lon id lon y in
    let with_id = λ (id lat lon : ℕ). refuse (not (is_id (zigzag_of id))) node.place BadId >> with_lat id lat lon in
    any (or_fault node.id node.place Missing) (λ id. or_fault node.lat node.place Missing >>= λ lat. or_fault node.lon node.place Missing >>= λ lon. with_id id lat lon) IsFileNode (λ id.
    any (or_fault node.lat node.place Missing) (λ lat. or_fault node.lon node.place Missing >>= λ lon. with_id id lat lon) IsFileNode (λ lat.
    any (or_fault node.lon node.place Missing) (λ lon. with_id id lat lon) IsFileNode (λ lon.
    unrefused (not (is_id (zigzag_of id))) node.place BadId (with_lat id lat lon) IsFileNode (λ fine.
    near (lat_axis scale) (zigzag_of lat) node.place BadPlace (λ y. with_lon id lon y) IsFileNode (λ y near_y.
    near (lon_axis scale) (zigzag_of lon) node.place BadPlace (λ x. made id y x) IsFileNode (λ x near_x.
    is_node (zigzag_of id) y x (short_of (zigzag_of id) fine) near_y near_x))))))

side_by_side : (ids lats lons : List ℤ) → All IsShort ids → All (IsNear 900000000) lats → All (IsNear 1800000000) lons → All IsFileNode (nodes_of ids lats lons)
side_by_side [] lats lons i y x = All-nil IsFileNode
side_by_side (id ∷ ids) [] lons i y x = All-nil IsFileNode
side_by_side (id ∷ ids) (lat ∷ lats) [] i y x = All-nil IsFileNode
side_by_side (id ∷ ids) (lat ∷ lats) (lon ∷ lons) i y x =
    All-cons IsFileNode (record { id = id; place = record { lat = lat; lon = lon } }) (nodes_of ids lats lons)
    (is_node id lat lon (All-head IsShort id ids i) (All-head (IsNear 900000000) lat lats y) (All-head (IsNear 1800000000) lon lons x))
    (side_by_side ids lats lons (All-tail IsShort id ids i) (All-tail (IsNear 900000000) lat lats y) (All-tail (IsNear 1800000000) lon lons x))

dense_kept : (scale : Scale) (dense : Dense) → IfOk (dense_with scale dense) (All IsFileNode)
unfolding dense_with
dense_kept scale dense =
    let ids = ids_from dense.place (pos 0) dense.ids in
    let lats = coordinates_from dense.place (lat_axis scale) (pos 0) dense.lats in
    let lons = coordinates_from dense.place (lon_axis scale) (pos 0) dense.lons in
    let made : List ℤ → List ℤ → List ℤ → Result (List OsmNode) (ℕ × PbfKind) = λ i y x. Ok (nodes_of i y x) in
    let uneven = not (length dense.ids == length dense.lats) || not (length dense.ids == length dense.lons) in
    let odd = not (length dense.tags == 0) && not (tags_fit (length dense.ids) dense.tags) in
    let sums = ids >>= λ i. lats >>= λ y. lons >>= λ x. made i y x in
    pass (refuse uneven dense.place Uneven) (refuse odd dense.place OddKeys >> sums) (All IsFileNode) (
    pass (refuse odd dense.place OddKeys) sums (All IsFileNode) (
    bound ids (λ i. lats >>= λ y. lons >>= λ x. made i y x) (All IsShort) (All IsFileNode) (ids_kept dense.place (pos 0) dense.ids) (λ i short.
    bound lats (λ y. lons >>= λ x. made i y x) (All (IsNear 900000000)) (All IsFileNode) (coordinates_kept dense.place (lat_axis scale) (pos 0) dense.lats) (λ y near_y.
    bound lons (λ x. made i y x) (All (IsNear 1800000000)) (All IsFileNode) (coordinates_kept dense.place (lon_axis scale) (pos 0) dense.lons) (λ x near_x.
    side_by_side i y x short near_y near_x)))))

-- ways

way_kept : (texts : List (List ℕ)) (way : Way) → IfOk (way_with texts way) IsFileWay
unfolding way_with
way_kept texts way =
    let made : ℕ → List OsmTag → List ℤ → Result OsmWay (ℕ × PbfKind) = λ id tags refs. Ok (record { id = cast_signed w64 id; tags = tags; refs = refs }) in
    let with_refs = λ (id : ℕ) (tags : List OsmTag). ids_from way.place (pos 0) way.refs >>= λ refs. made id tags refs in
    let with_id = λ (id : ℕ) (tags : List OsmTag). refuse (not (is_id (cast_signed w64 id))) way.place BadId >> with_refs id tags in
    let with_tags = λ (id : ℕ). tags_of way.place texts way.keys way.values >>= λ tags. with_id id tags in
    let uneven = not (length way.keys == length way.values) in
    any (or_fault way.id way.place Missing) (λ id. refuse uneven way.place Uneven >> with_tags id) IsFileWay (λ id.
    pass (refuse uneven way.place Uneven) (with_tags id) IsFileWay (
    any (tags_of way.place texts way.keys way.values) (λ tags. with_id id tags) IsFileWay (λ tags.
    unrefused (not (is_id (cast_signed w64 id))) way.place BadId (with_refs id tags) IsFileWay (λ fine.
    bound (ids_from way.place (pos 0) way.refs) (λ refs. made id tags refs) (All IsShort) IsFileWay (ids_kept way.place (pos 0) way.refs) (λ refs all.
    record { id = short_of (cast_signed w64 id) fine; refs = all })))))

-- maps

abbrev pub AreKept : GroupSoFar → Type 0
AreKept s = IsFileMap s.map × All IsFileNode s.dense

message_kept : (texts : List (List ℕ)) (scale : Scale) (s : GroupSoFar) (message : Message) → AreKept s → IfOk (message_with texts scale s message) AreKept
unfolding message_with
message_kept texts scale s (messages.Node node) k =
    bound (node_with scale node) (λ n. Ok (record { map = record { nodes = s.map.nodes ++ n ∷ []; ways = s.map.ways }; dense = s.dense })) IsFileNode AreKept (node_kept scale node) (λ n one. (record { nodes = All-push IsFileNode s.map.nodes n k.0.nodes one; ways = k.0.ways }, k.1))
message_kept texts scale s (messages.Dense dense) k =
    bound (dense_with scale dense) (λ nodes. Ok (record { map = s.map; dense = s.dense ++ nodes })) (All IsFileNode) AreKept (dense_kept scale dense) (λ nodes all. (k.0, All-append IsFileNode s.dense nodes k.1 all))
message_kept texts scale s (messages.Way way) k =
    bound (way_with texts way) (λ w. Ok (record { map = record { nodes = s.map.nodes; ways = s.map.ways ++ w ∷ [] }; dense = s.dense })) IsFileWay AreKept (way_kept texts way) (λ w one. (record { nodes = k.0.nodes; ways = All-push IsFileWay s.map.ways w k.0.ways one }, k.1))

messages_kept : (texts : List (List ℕ)) (scale : Scale) (s : GroupSoFar) (messages : List Message) → AreKept s → IfOk (messages_with texts scale s messages) AreKept
messages_kept texts scale s [] k = k
messages_kept texts scale s (message ∷ messages) k =
    bound (message_with texts scale s message) (λ t. messages_with texts scale t messages) AreKept AreKept (message_kept texts scale s message k) (λ t kept. messages_kept texts scale t messages kept)

group_kept : (texts : List (List ℕ)) (scale : Scale) (m : OsmMap) (group : Group) → IsFileMap m → IfOk (group_with texts scale m group) IsFileMap
unfolding group_with
group_kept texts scale m group k =
    bound (messages_with texts scale (record { map = m; dense = [] }) group.messages) (λ s. Ok (closed s)) AreKept IsFileMap (messages_kept texts scale (record { map = m; dense = [] }) group.messages (k, All-nil IsFileNode)) (λ s kept.
    record { nodes = All-append IsFileNode s.map.nodes s.dense kept.0.nodes kept.1; ways = kept.0.ways })

groups_kept : (texts : List (List ℕ)) (scale : Scale) (m : OsmMap) (groups : List Group) → IsFileMap m → IfOk (groups_with texts scale m groups) IsFileMap
groups_kept texts scale m [] k = k
groups_kept texts scale m (group ∷ groups) k =
    bound (group_with texts scale m group) (λ n. groups_with texts scale n groups) IsFileMap IsFileMap (group_kept texts scale m group k) (λ n kept. groups_kept texts scale n groups kept)

block_kept : (file : List ℕ) (m : OsmMap) (piece : Piece) → IsFileMap m → IfOk (block_with file m piece) IsFileMap
unfolding block_with
block_kept file m piece k =
    let block = block_of (take piece.end file) piece.start in
    let texts = texts_in block.table block.pieces block.strings in
    pass (is_run block.bad) (texts >>= λ t. groups_with t (scale_of block) m block.groups) IsFileMap (
    any texts (λ t. groups_with t (scale_of block) m block.groups) IsFileMap (λ t. groups_kept t (scale_of block) m block.groups k))

blob_kept : (file : List ℕ) (m : OsmMap) (header : BlobHeader) → IsFileMap m → IfOk (blob_with file m header) IsFileMap
unfolding blob_with
blob_kept file m header k =
    let content = content_at file header.end (header.end + header.datasize) in
    let as_header = content >>= λ piece. header_block file piece >> Ok m in
    let as_block = content >>= λ piece. block_with file m piece in
    let is_data = is_named (codes "OSMData") file header.name in
    either (is_named (codes "OSMHeader") file header.name) as_header (if is_data then as_block else Ok m) IsFileMap
    (any content (λ piece. header_block file piece >> Ok m) IsFileMap (λ piece. pass (header_block file piece) (Ok m) IsFileMap k))
    (either is_data as_block (Ok m) IsFileMap (any content (λ piece. block_with file m piece) IsFileMap (λ piece. block_kept file m piece k)) k)

blobs_kept : (most : ℕ) (file : List ℕ) (first : Bool) (m : OsmMap) (at : ℕ) → IsFileMap m → IfOk (blobs_from most file first m at) IsFileMap
blobs_kept zero file first m at k = either first (Err (at, NoHeader)) (Ok m) IsFileMap tt k
blobs_kept (suc most) file first m at k =
    let behind = λ (header : BlobHeader) (n : OsmMap). blobs_from most file false n (header.end + header.datasize) in
    let next = λ (header : BlobHeader). blob_with file m header >>= λ n. behind header n in
    either (ltb at (length file)) (header_at file first at >>= λ header. next header) (at_end first at m) IsFileMap
    (any (header_at file first at) (λ header. next header) IsFileMap (λ header.
    bound (blob_with file m header) (λ n. behind header n) IsFileMap IsFileMap (blob_kept file m header k) (λ n kept. blobs_kept most file false n (header.end + header.datasize) kept)))
    (either first (Err (at, NoHeader)) (Ok m) IsFileMap tt k)

reads_kept : (file : List ℕ) → IfOk (reads file) IsFileMap
unfolding reads
reads_kept file = blobs_kept (length file) file true (record { nodes = []; ways = [] }) 0 (record { nodes = All-nil IsFileNode; ways = All-nil IsFileWay })

-- what a reading gives is a map that a file can say
pub is_kept : (result : Result OsmMap PbfFault) (file : List ℕ) → Gives result (reads file) → IfOk result IsFileMap
is_kept (Ok m) file given = subst (λ r. IfOk r IsFileMap) given (reads_kept file)
is_kept (Err fault) file given = tt

place_of : (node : OsmNode) → IsFileNode node → IsOnEarth node.place
place_of node n = n.place

-- each place of such a map is on the earth
on_earth : (m : OsmMap) → IsFileMap m → All (λ (node : OsmNode). IsOnEarth node.place) m.nodes
on_earth m f = All-weaker IsFileNode (λ (node : OsmNode). IsOnEarth node.place) place_of m.nodes f.nodes

pub are_on_earth : (result : Result OsmMap PbfFault) → IfOk result IsFileMap → IfOk result (λ m. All (λ (node : OsmNode). IsOnEarth node.place) m.nodes)
are_on_earth (Ok m) kept = on_earth m kept
are_on_earth (Err fault) kept = tt
