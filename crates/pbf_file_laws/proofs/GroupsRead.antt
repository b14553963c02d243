-- Groups are read: nodes, dense nodes and ways, in any order.
use Rattle.std.proofs.Common.{◌≡◌, ◌∙◌, ℕ, List, [], ◌∷◌, ◌++◌, take, None, Ok, Bool, true, false, not, ◌&&◌, eqb, inl, refl, sym, subst, append_assoc, append-nil}
use Rattle.std.specs.Prelude.{◌==◌, if◌then◌else◌}
use Rattle.std.proofs.lemmas.Bool.{eqb-true, and_left, and_right}
use Rattle.gh_base.specs.declared.map.OsmNode.{OsmNode}
use Rattle.gh_base.specs.declared.map.OsmWay.{OsmWay}
use Rattle.pbf_wire.specs.declared.fields.Spot.{Spot}
use Rattle.pbf_wire.specs.declared.fields.Piece.{Piece}
use Rattle.pbf_wire.specs.declared.messages.Scale.{Scale}
use Rattle.pbf_wire.specs.declared.messages.Group.{Group}
use Rattle.pbf_wire.specs.declared.messages.GroupSoFar.{GroupSoFar}
use Rattle.pbf_wire.specs.declared.messages.Node.{Node}
use Rattle.pbf_wire.specs.declared.messages.Dense.{Dense}
use Rattle.pbf_wire.specs.declared.messages.Way.{Way}
use Rattle.pbf_wire.specs.declared.messages.Message.TheVariants as message
use Rattle.pbf_wire.specs.Pieces.{is_bytes, pieces_of}
use Rattle.pbf_wire.specs.Nodes.{node_of, node_with}
use Rattle.pbf_wire.specs.Dense.{dense_of, dense_with}
use Rattle.pbf_wire.specs.Ways.{way_of, way_with}
use Rattle.pbf_wire.specs.Groups.{no_messages, after, only, message_in, messages_of, group_of, message_with, messages_with, group_with}
use Rattle.pbf_file_laws.specs.Messages.{Value, Entry}
use Rattle.pbf_file_laws.specs.Saying.{content_in, contents, joined, Pairwise}
use Rattle.pbf_file_laws.specs.Reading.{Stands, IsValueAt, AreFields}
use Rattle.pbf_file_laws.specs.Nodes.{IsNode, IsDense, DenseReads}
use Rattle.pbf_file_laws.specs.Ways.{IsWay}
use Rattle.pbf_file_laws.specs.Blocks.{AreDense, GroupsAreRead}
use Rattle.pbf_file_laws.proofs.Runs.{message_read}
use Rattle.pbf_file_laws.proofs.Says.{no_bytes, and_true, joined_read}
use Rattle.pbf_file_laws.proofs.NodesRead.{node_read, dense_read}
use Rattle.pbf_file_laws.proofs.WaysRead.{way_read}

in_node : (bytes : List ℕ) (pieces : List Piece) (first : Bool) (spot : Spot) (node : Node) → spot.field.number ≡ 1 → spot.field.wire ≡ 2 → node_of (take spot.field.end bytes) spot.field.start ≡ node → message_in bytes pieces first spot ≡ only (message.Node node) node.bad
unfolding message_in
in_node bytes pieces first spot node n w is = rw (n, w, is) refl

in_way : (bytes : List ℕ) (pieces : List Piece) (first : Bool) (spot : Spot) (way : Way) → spot.field.number ≡ 3 → spot.field.wire ≡ 2 → way_of (take spot.field.end bytes) spot.field.start ≡ way → message_in bytes pieces first spot ≡ only (message.Way way) way.bad
unfolding message_in
in_way bytes pieces first spot way n w is = rw (n, w, is) refl

in_dense : (bytes : List ℕ) (pieces : List Piece) (spot : Spot) (dense : Dense) → spot.field.number ≡ 2 → spot.field.wire ≡ 2 → dense_of bytes pieces spot.field.start ≡ dense → message_in bytes pieces true spot ≡ only (message.Dense dense) dense.bad
unfolding message_in
in_dense bytes pieces spot dense n w is = rw (n, w, is) refl

in_later : (bytes : List ℕ) (pieces : List Piece) (spot : Spot) → spot.field.number ≡ 2 → spot.field.wire ≡ 2 → message_in bytes pieces false spot ≡ no_messages
unfolding message_in
in_later bytes pieces spot n w = rw (n, w) refl

in_none : (bytes : List ℕ) (pieces : List Piece) (first : Bool) (spot : Spot) → is_bytes 1 spot ≡ false → is_bytes 2 spot ≡ false → is_bytes 3 spot ≡ false → message_in bytes pieces first spot ≡ no_messages
unfolding message_in
in_none bytes pieces first spot one two three = rw (one, three, two) refl

with_node : (texts : List (List ℕ)) (scale : Scale) (s : GroupSoFar) (node : Node) (n : OsmNode) → node_with scale node ≡ Ok n → message_with texts scale s (message.Node node) ≡ Ok (record { map = record { nodes = s.map.nodes ++ n ∷ []; ways = s.map.ways }; dense = s.dense })
unfolding message_with
with_node texts scale s node n e = rw e refl

with_way : (texts : List (List ℕ)) (scale : Scale) (s : GroupSoFar) (way : Way) (w : OsmWay) → way_with texts way ≡ Ok w → message_with texts scale s (message.Way way) ≡ Ok (record { map = record { nodes = s.map.nodes; ways = s.map.ways ++ w ∷ [] }; dense = s.dense })
unfolding message_with
with_way texts scale s way w e = rw e refl

with_dense : (texts : List (List ℕ)) (scale : Scale) (s : GroupSoFar) (dense : Dense) (ns : List OsmNode) → dense_with scale dense ≡ Ok ns → message_with texts scale s (message.Dense dense) ≡ Ok (record { map = s.map; dense = s.dense ++ ns })
unfolding message_with
with_dense texts scale s dense ns e = rw e refl

-- messages that add these nodes, dense nodes and ways to a group so far
record Adds (texts : List (List ℕ)) (scale : Scale) (s : GroupSoFar) (group : Group) (nodes dense : List OsmNode) (ways : List OsmWay) : Type 0 where
  fine : group.bad ≡ None
  adds : messages_with texts scale s group.messages ≡ Ok (record { map = record { nodes = s.map.nodes ++ nodes; ways = s.map.ways ++ ways }; dense = s.dense ++ dense })

-- the dense nodes stand at the first value, and are not added again
abbrev Left : Bool → List (List ℕ) → List OsmNode → List OsmNode → Type 0
Left false values all dense = dense ≡ []
Left true [] all dense = dense ≡ []
Left true (value ∷ values) all dense = dense ≡ all

none_left : (first : Bool) (all dense : List OsmNode) → Left first [] all dense → dense ≡ []
none_left true all dense h = h
none_left false all dense h = h

split : (bytes : List ℕ) (pieces : List Piece) (first next : Bool) (spot : Spot) (spots : List Spot) (one : Group) → message_in bytes pieces first spot ≡ one → (first && not (is_bytes 2 spot)) ≡ next →
    messages_of bytes pieces first (spot ∷ spots) ≡ after one (messages_of bytes pieces next spots)
split bytes pieces first next spot spots one here flag = rw (here, flag) refl

empty_by : (t : Bool) → (if t then no_bytes else []) ≡ no_bytes
empty_by true = refl
empty_by false = refl

module _ (texts : List (List ℕ)) (scale : Scale) (bytes : List ℕ) (pieces : List Piece) (all : List OsmNode) (reads : (place : ℕ) → DenseReads scale bytes pieces place all) (spots : List Spot) (ones twos threes : List (List ℕ)) where
  -- what the fields behind this one add
  abbrev Behind : Type 0
  Behind = (first : Bool) (s : GroupSoFar) (nodes dense : List OsmNode) (ways : List OsmWay) → Pairwise (IsNode scale) ones nodes → Pairwise (IsWay texts) threes ways → Left first twos all dense → Adds texts scale s (messages_of bytes pieces first spots) nodes dense ways

  abbrev Whole : Bool → Spot → GroupSoFar → List OsmNode → List OsmNode → List OsmWay → Type 0
  Whole first spot s nodes dense ways = Adds texts scale s (messages_of bytes pieces first (spot ∷ spots)) nodes dense ways

  node_step : (first : Bool) (spot : Spot) (content : List ℕ) (s : GroupSoFar) (nodes dense : List OsmNode) (ways : List OsmWay) → spot.field.number ≡ 1 → spot.field.wire ≡ 2 → Stands (take spot.field.end bytes) spot.field.start content →
      Pairwise (IsNode scale) (content ∷ ones) nodes → Pairwise (IsWay texts) threes ways → Left first twos all dense → Behind → Whole first spot s nodes dense ways
  node_step first spot content s [] dense ways n w stands ns ws ds behind = absurd ns
  node_step first spot content s (node ∷ nodes) dense ways n w stands ns ws ds behind =
      let found = node_of (take spot.field.end bytes) spot.field.start in
      let read = node_read scale (take spot.field.end bytes) content spot.field.start node stands ns.0 in
      let other : is_bytes 2 spot ≡ false = rw n refl in
      let flag : (first && not (is_bytes 2 spot)) ≡ first = rw other (and_true first) in
      let more = behind first (record { map = record { nodes = s.map.nodes ++ node ∷ []; ways = s.map.ways }; dense = s.dense }) nodes dense ways ns.1 ws ds in
      let here = split bytes pieces first first spot spots (only (message.Node found) found.bad) (in_node bytes pieces first spot found n w refl) flag in
      let rest = messages_of bytes pieces first spots in
      let with : Adds texts scale s (after (only (message.Node found) found.bad) rest) (node ∷ nodes) dense ways = record {
        fine = rw (read.0, more.fine) refl;
        adds = rw (with_node texts scale s found node read.1, more.adds, append_assoc s.map.nodes (node ∷ []) nodes) refl;
      } in
      subst (λ (g : Group). Adds texts scale s g (node ∷ nodes) dense ways) (sym here) with

  way_step : (first : Bool) (spot : Spot) (content : List ℕ) (s : GroupSoFar) (nodes dense : List OsmNode) (ways : List OsmWay) → spot.field.number ≡ 3 → spot.field.wire ≡ 2 → Stands (take spot.field.end bytes) spot.field.start content →
      Pairwise (IsNode scale) ones nodes → Pairwise (IsWay texts) (content ∷ threes) ways → Left first twos all dense → Behind → Whole first spot s nodes dense ways
  way_step first spot content s nodes dense [] n w stands ns ws ds behind = absurd ws
  way_step first spot content s nodes dense (way ∷ ways) n w stands ns ws ds behind =
      let found = way_of (take spot.field.end bytes) spot.field.start in
      let read = way_read texts (take spot.field.end bytes) content spot.field.start way stands ws.0 in
      let other : is_bytes 2 spot ≡ false = rw n refl in
      let flag : (first && not (is_bytes 2 spot)) ≡ first = rw other (and_true first) in
      let more = behind first (record { map = record { nodes = s.map.nodes; ways = s.map.ways ++ way ∷ [] }; dense = s.dense }) nodes dense ways ns ws.1 ds in
      let here = split bytes pieces first first spot spots (only (message.Way found) found.bad) (in_way bytes pieces first spot found n w refl) flag in
      let rest = messages_of bytes pieces first spots in
      let with : Adds texts scale s (after (only (message.Way found) found.bad) rest) nodes dense (way ∷ ways) = record {
        fine = rw (read.0, more.fine) refl;
        adds = rw (with_way texts scale s found way read.1, more.adds, append_assoc s.map.ways (way ∷ []) ways) refl;
      } in
      subst (λ (g : Group). Adds texts scale s g nodes dense (way ∷ ways)) (sym here) with

  skip : (first next : Bool) (spot : Spot) (s : GroupSoFar) (nodes dense : List OsmNode) (ways : List OsmWay) → message_in bytes pieces first spot ≡ no_messages → (first && not (is_bytes 2 spot)) ≡ next →
      Pairwise (IsNode scale) ones nodes → Pairwise (IsWay texts) threes ways → Left next twos all dense → Behind → Whole first spot s nodes dense ways
  skip first next spot s nodes dense ways none flag ns ws ds behind =
      let here : messages_of bytes pieces first (spot ∷ spots) ≡ messages_of bytes pieces next spots = split bytes pieces first next spot spots no_messages none flag in
      subst (λ (g : Group). Adds texts scale s g nodes dense ways) (sym here) (behind next s nodes dense ways ns ws ds)

  dense_step : (first : Bool) (spot : Spot) (content : List ℕ) (s : GroupSoFar) (nodes dense : List OsmNode) (ways : List OsmWay) → spot.field.number ≡ 2 → spot.field.wire ≡ 2 →
      Pairwise (IsNode scale) ones nodes → Pairwise (IsWay texts) threes ways → Left first (content ∷ twos) all dense → Behind → Whole first spot s nodes dense ways
  dense_step false spot content s nodes dense ways n w ns ws ds behind =
      skip false false spot s nodes dense ways (in_later bytes pieces spot n w) refl ns ws ds behind
  dense_step true spot content s nodes dense ways n w ns ws ds behind =
      let found = dense_of bytes pieces spot.field.start in
      let read = reads spot.field.start in
      let flag : (true && not (is_bytes 2 spot)) ≡ false = rw (n, w) refl in
      let more = behind false (record { map = s.map; dense = s.dense ++ all }) nodes [] ways ns ws refl in
      let here = split bytes pieces true false spot spots (only (message.Dense found) found.bad) (in_dense bytes pieces spot found n w refl) flag in
      let rest = messages_of bytes pieces false spots in
      let with : Adds texts scale s (after (only (message.Dense found) found.bad) rest) nodes dense ways = record {
        fine = rw (read.0, more.fine) refl;
        adds = rw (ds, with_dense texts scale s found all read.1, more.adds, append-nil (s.dense ++ all)) refl;
      } in
      subst (λ (g : Group). Adds texts scale s g nodes dense ways) (sym here) with

  other_step : (first : Bool) (spot : Spot) (s : GroupSoFar) (nodes dense : List OsmNode) (ways : List OsmWay) → is_bytes 1 spot ≡ false → is_bytes 2 spot ≡ false → is_bytes 3 spot ≡ false →
      Pairwise (IsNode scale) ones nodes → Pairwise (IsWay texts) threes ways → Left first twos all dense → Behind → Whole first spot s nodes dense ways
  other_step first spot s nodes dense ways one two three ns ws ds behind =
      skip first first spot s nodes dense ways (in_none bytes pieces first spot one two three) (rw two (and_true first)) ns ws ds behind

  -- a field of bytes, by its number
  bytes_step : (t u v : Bool) (n : ℕ) (first : Bool) (spot : Spot) (content : List ℕ) (s : GroupSoFar) (nodes dense : List OsmNode) (ways : List OsmWay) → eqb n 1 ≡ t → eqb n 2 ≡ u → eqb n 3 ≡ v →
      spot.field.number ≡ n → spot.field.wire ≡ 2 → Stands (take spot.field.end bytes) spot.field.start content →
      Pairwise (IsNode scale) ((if n == 1 then content ∷ [] else []) ++ ones) nodes → Pairwise (IsWay texts) ((if n == 3 then content ∷ [] else []) ++ threes) ways → Left first ((if n == 2 then content ∷ [] else []) ++ twos) all dense → Behind → Whole first spot s nodes dense ways
  bytes_step true u v n first spot content s nodes dense ways one two three e w stands ns ws ds behind =
      let is : n ≡ 1 = eqb-true n 1 one in
      node_step first spot content s nodes dense ways (e ∙ is) w stands (rw is at ns) (rw is at ws) (rw is at ds) behind
  bytes_step false true v n first spot content s nodes dense ways one two three e w stands ns ws ds behind =
      let is : n ≡ 2 = eqb-true n 2 two in
      dense_step first spot content s nodes dense ways (e ∙ is) w (rw is at ns) (rw is at ws) (rw is at ds) behind
  bytes_step false false true n first spot content s nodes dense ways one two three e w stands ns ws ds behind =
      let is : n ≡ 3 = eqb-true n 3 three in
      way_step first spot content s nodes dense ways (e ∙ is) w stands (rw is at ns) (rw is at ws) (rw is at ds) behind
  bytes_step false false false n first spot content s nodes dense ways one two three e w stands ns ws ds behind =
      let a : is_bytes 1 spot ≡ false = rw e (and_left (eqb n 1) (spot.field.wire == 2) one) in
      let b : is_bytes 2 spot ≡ false = rw e (and_left (eqb n 2) (spot.field.wire == 2) two) in
      let d : is_bytes 3 spot ≡ false = rw e (and_left (eqb n 3) (spot.field.wire == 2) three) in
      other_step first spot s nodes dense ways a b d (rw one at ns) (rw three at ws) (rw two at ds) behind

  no_bytes_step : (n : ℕ) (first : Bool) (spot : Spot) (s : GroupSoFar) (nodes dense : List OsmNode) (ways : List OsmWay) → (spot.field.wire == 2) ≡ false →
      Pairwise (IsNode scale) ((if n == 1 then no_bytes else []) ++ ones) nodes → Pairwise (IsWay texts) ((if n == 3 then no_bytes else []) ++ threes) ways → Left first ((if n == 2 then no_bytes else []) ++ twos) all dense → Behind → Whole first spot s nodes dense ways
  no_bytes_step n first spot s nodes dense ways w ns ws ds behind =
      other_step first spot s nodes dense ways (and_right (spot.field.number == 1) (spot.field.wire == 2) w) (and_right (spot.field.number == 2) (spot.field.wire == 2) w) (and_right (spot.field.number == 3) (spot.field.wire == 2) w)
      (subst (λ (l : List (List ℕ)). Pairwise (IsNode scale) (l ++ ones) nodes) (empty_by (n == 1)) ns)
      (subst (λ (l : List (List ℕ)). Pairwise (IsWay texts) (l ++ threes) ways) (empty_by (n == 3)) ws)
      (subst (λ (l : List (List ℕ)). Left first (l ++ twos) all dense) (empty_by (n == 2)) ds) behind

  -- a field of any kind
  step : (n : ℕ) (value : Value) (first : Bool) (spot : Spot) (s : GroupSoFar) (nodes dense : List OsmNode) (ways : List OsmWay) → spot.field.number ≡ n → IsValueAt bytes spot.field value →
      Pairwise (IsNode scale) ((if n == 1 then content_in value else []) ++ ones) nodes → Pairwise (IsWay texts) ((if n == 3 then content_in value else []) ++ threes) ways → Left first ((if n == 2 then content_in value else []) ++ twos) all dense → Behind → Whole first spot s nodes dense ways
  step n (Value.Varint groups) first spot s nodes dense ways e is ns ws ds behind = no_bytes_step n first spot s nodes dense ways (rw is.0 refl) ns ws ds behind
  step n (Value.Eight eight) first spot s nodes dense ways e is ns ws ds behind = no_bytes_step n first spot s nodes dense ways (rw is refl) ns ws ds behind
  step n (Value.Bytes size content) first spot s nodes dense ways e is ns ws ds behind =
      bytes_step (eqb n 1) (eqb n 2) (eqb n 3) n first spot content s nodes dense ways refl refl refl e is.0 is.2 ns ws ds behind
  step n (Value.Four four) first spot s nodes dense ways e is ns ws ds behind = no_bytes_step n first spot s nodes dense ways (rw is refl) ns ws ds behind

messages_read : (texts : List (List ℕ)) (scale : Scale) (bytes : List ℕ) (pieces : List Piece) (all : List OsmNode) → ((place : ℕ) → DenseReads scale bytes pieces place all) → (spots : List Spot) (entries : List Entry) (first : Bool) (s : GroupSoFar) (nodes dense : List OsmNode) (ways : List OsmWay) →
    AreFields bytes spots entries → Pairwise (IsNode scale) (contents 1 entries) nodes → Pairwise (IsWay texts) (contents 3 entries) ways → Left first (contents 2 entries) all dense → Adds texts scale s (messages_of bytes pieces first spots) nodes dense ways
messages_read texts scale bytes pieces all reads [] [] first s [] dense [] are ns ws ds =
    record { fine = refl; adds = rw (none_left first all dense ds, append-nil s.map.nodes, append-nil s.map.ways, append-nil s.dense) refl }
messages_read texts scale bytes pieces all reads [] [] first s (node ∷ nodes) dense ways are ns ws ds = absurd ns
messages_read texts scale bytes pieces all reads [] [] first s [] dense (way ∷ ways) are ns ws ds = absurd ws
messages_read texts scale bytes pieces all reads [] (entry ∷ entries) first s nodes dense ways are ns ws ds = absurd are
messages_read texts scale bytes pieces all reads (spot ∷ spots) [] first s nodes dense ways are ns ws ds = absurd are
messages_read texts scale bytes pieces all reads (spot ∷ spots) (entry ∷ entries) first s nodes dense ways are ns ws ds =
    step texts scale bytes pieces all reads spots (contents 1 entries) (contents 2 entries) (contents 3 entries) entry.number entry.value first spot s nodes dense ways are.0.number are.0.value ns ws ds
    (λ first2 s2 nodes2 dense2 ways2 ns2 ws2 ds2. messages_read texts scale bytes pieces all reads spots entries first2 s2 nodes2 dense2 ways2 are.1 ns2 ws2 ds2)

-- no bytes are no nodes
no_dense : (scale : Scale) → IsDense scale [] []
no_dense scale = record { entries = []; written = record { text = refl; are = tt }; ids = refl; short = tt; lats = []; lats_say = refl; lats_are = tt; lons = []; lons_say = refl; lons_are = tt; tags = []; tags_say = refl; tags_are = inl refl }

joined_dense : (scale : Scale) (values : List (List ℕ)) (nodes : List OsmNode) → AreDense scale values nodes → IsDense scale (joined values) nodes
joined_dense scale [] nodes h = subst (λ (ns : List OsmNode). IsDense scale [] ns) (sym h) (no_dense scale)
joined_dense scale (value ∷ values) nodes h = h

all_left : (scale : Scale) (values : List (List ℕ)) (nodes : List OsmNode) → AreDense scale values nodes → Left true values nodes nodes
all_left scale [] nodes h = h
all_left scale (value ∷ values) nodes h = refl

pub group_read : GroupsAreRead
unfolding group_of group_with
group_read texts scale m bytes content at part stands h =
    let run = message_read bytes content at h.entries stands h.written in
    let pieces = pieces_of 2 run.spots in
    let bytes_are = joined_read bytes 2 run.spots h.entries run.are in
    let reads : (place : ℕ) → DenseReads scale bytes pieces place h.dense = λ place. dense_read scale bytes (joined (contents 2 h.entries)) pieces place h.dense bytes_are (joined_dense scale (contents 2 h.entries) h.dense h.dense_are) in
    let all = messages_read texts scale bytes pieces h.dense reads run.spots h.entries true (record { map = m; dense = [] }) h.nodes h.dense part.ways run.are h.nodes_are h.ways_are (all_left scale (contents 2 h.entries) h.dense h.dense_are) in
    (rw (run.read, all.fine) refl, rw (run.read, all.adds, h.both, append_assoc m.nodes h.nodes h.dense) refl)
