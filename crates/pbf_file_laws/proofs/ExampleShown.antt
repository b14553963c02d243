-- The example is a file, and its map.
use Rattle.std.proofs.Common.{◌≡◌, ℕ, ◌+◌, ◌*◌, ◌<◌, pos, List, [], ◌∷◌, length, codes, Some, true, ltb, inl, inr, refl, ap, arith}
use Rattle.std.proofs.lemmas.Bool.{ltb-true}
use Rattle.std.proofs.lemmas.Int.{ints}
use Rattle.gh_base.specs.declared.map.OsmMap.{OsmMap}
use Rattle.gh_base.specs.Places.{most_lat, most_lon}
use Rattle.pbf_wire.specs.declared.messages.Scale.{Scale}
use Rattle.pbf_file_laws.specs.Messages.{IsVarint, Value, IsEntry, message_text}
use Rattle.pbf_file_laws.specs.Saying.{IsPacked}
use Rattle.pbf_file_laws.specs.Nodes.{IsCoordinate, IsDense}
use Rattle.pbf_file_laws.specs.Ways.{IsWay}
use Rattle.pbf_file_laws.specs.Blocks.{IsGroup, IsBlock, no_map}
use Rattle.pbf_file_laws.specs.Files.{Kind, IsNamed, IsRaw, IsHeader, BlobSays, IsBlob}
use Rattle.pbf_file_laws.specs.Example.{bytes_entry, number_entry, dense_entries, way_entries, nodes_group, ways_group, block_entries, header_entries, blob_of, blob_header, blob_bytes, example_nodes, example_way, example_map, FilesThereAre}

one : (g : ℕ) → g < 128 → IsVarint (g ∷ [])
one g h = record { are = (h, tt); some = omega arith; few = omega arith; small = omega arith }

short_bytes : (number : ℕ) (content : List ℕ) → ltb 0 number ≡ true → ltb number 15 ≡ true → ltb (length content) 128 ≡ true → IsEntry (bytes_entry number content)
short_bytes number content a b d =
    let some = ltb-true 0 number a in
    let low = ltb-true number 15 b in
    let small = ltb-true (length content) 128 d in
    record { some = some; key = one (8 * number + 2) (omega arith); says = omega arith; value = (one (length content) small, omega arith) }

short_number : (number : ℕ) (groups : List ℕ) → ltb 0 number ≡ true → ltb number 15 ≡ true → IsVarint groups → IsEntry (number_entry number groups)
short_number number groups a b good =
    let some = ltb-true 0 number a in
    let low = ltb-true number 15 b in
    record { some = some; key = one (8 * number) (omega arith); says = omega arith; value = good }

abbrev scale : Scale
scale = record { granularity = pos 100; lat_offset = pos 0; lon_offset = pos 0 }

zero_is : (most : ℕ) → IsCoordinate most (pos 100) (pos 0) (pos 0) (pos 0)
zero_is most = record { low = omega (arith, ints); high = omega (arith, ints); near = omega arith }

far_is : IsCoordinate most_lon (pos 100) (pos 0) (pos 100000) (pos 100000)
far_is = record { low = omega (arith, ints); high = omega (arith, ints); near = omega arith }

two_twos : IsPacked (2 ∷ 2 ∷ []) (2 ∷ 2 ∷ [])
two_twos = record { varints = (2 ∷ []) ∷ (2 ∷ []) ∷ []; are = (one 2 (omega arith), (one 2 (omega arith), tt)); text = refl; say = refl }

one_two : IsPacked (2 ∷ []) (2 ∷ [])
one_two = record { varints = (2 ∷ []) ∷ []; are = (one 2 (omega arith), tt); text = refl; say = refl }

two_zeros : IsPacked (0 ∷ 0 ∷ []) (0 ∷ 0 ∷ [])
two_zeros = record { varints = (0 ∷ []) ∷ (0 ∷ []) ∷ []; are = (one 0 (omega arith), (one 0 (omega arith), tt)); text = refl; say = refl }

far_groups : IsVarint (64 ∷ 26 ∷ 12 ∷ [])
far_groups = record { are = (omega arith, (omega arith, (omega arith, tt))); some = omega arith; few = omega arith; small = omega arith }

zero_and_far : IsPacked (0 ∷ 192 ∷ 154 ∷ 12 ∷ []) (0 ∷ 200000 ∷ [])
zero_and_far = record { varints = (0 ∷ []) ∷ (64 ∷ 26 ∷ 12 ∷ []) ∷ []; are = (one 0 (omega arith), (far_groups, tt)); text = refl; say = refl }

ten : IsVarint (10 ∷ 0 ∷ 0 ∷ [])
ten = record { are = (omega arith, (omega arith, (omega arith, tt))); some = omega arith; few = omega arith; small = omega arith }

eight : IsEntry (record { number = 7; key = 57 ∷ []; value = Value.Eight (1 ∷ 2 ∷ 3 ∷ 4 ∷ 5 ∷ 6 ∷ 7 ∷ 8 ∷ []) })
eight = record { some = omega arith; key = one 57 (omega arith); says = refl; value = refl }

four : IsEntry (record { number = 5; key = 45 ∷ []; value = Value.Four (1 ∷ 2 ∷ 3 ∷ 4 ∷ []) })
four = record { some = omega arith; key = one 45 (omega arith); says = refl; value = refl }

dense_is : IsDense scale (message_text dense_entries) example_nodes
dense_is = record {
  entries = dense_entries;
  written = record { text = refl; are = (short_bytes 1 (2 ∷ 2 ∷ []) refl refl refl, (eight, (short_bytes 8 (0 ∷ 0 ∷ []) refl refl refl, (short_bytes 9 (0 ∷ 192 ∷ 154 ∷ 12 ∷ []) refl refl refl, tt)))) };
  ids = (2 ∷ 2 ∷ [], [], refl, two_twos, ([], [], refl, refl, ([], [], refl, refl, ([], [], refl, refl, refl))));
  short = (omega arith, (omega arith, tt));
  lats = pos 0 ∷ pos 0 ∷ [];
  lats_say = ([], 0 ∷ 0 ∷ [], refl, refl, ([], 0 ∷ 0 ∷ [], refl, refl, (0 ∷ 0 ∷ [], [], refl, two_zeros, ([], [], refl, refl, refl))));
  lats_are = (zero_is most_lat, (zero_is most_lat, tt));
  lons = pos 0 ∷ pos 100000 ∷ [];
  lons_say = ([], 0 ∷ 200000 ∷ [], refl, refl, ([], 0 ∷ 200000 ∷ [], refl, refl, ([], 0 ∷ 200000 ∷ [], refl, refl, (0 ∷ 200000 ∷ [], [], refl, zero_and_far, refl))));
  lons_are = (zero_is most_lon, (far_is, tt));
  tags = [];
  tags_say = ([], [], refl, refl, ([], [], refl, refl, ([], [], refl, refl, ([], [], refl, refl, refl))));
  tags_are = inl refl;
}

way_is : IsWay [] (message_text way_entries) example_way
way_is = record {
  entries = way_entries;
  written = record { text = refl; are = (short_number 8 (2 ∷ []) refl refl (one 2 (omega arith)), (short_number 1 (10 ∷ 0 ∷ 0 ∷ []) refl refl ten, (short_bytes 8 (2 ∷ []) refl refl refl, tt))) };
  id = 10;
  id_says = refl;
  id_is = record { same = refl; fits = omega arith };
  short = omega arith;
  keys = [];
  keys_say = ([], [], refl, refl, ([], [], refl, refl, ([], [], refl, refl, refl)));
  values = [];
  values_say = ([], [], refl, refl, ([], [], refl, refl, ([], [], refl, refl, refl)));
  tags = tt;
  refs = (2 ∷ [], 2 ∷ [], refl, refl, ([], 2 ∷ [], refl, refl, (2 ∷ [], [], refl, one_two, refl)));
  refs_short = (omega arith, (omega arith, tt));
}

nodes_are : IsGroup [] scale (message_text nodes_group) (record { nodes = example_nodes; ways = [] })
nodes_are = record {
  entries = nodes_group;
  written = record { text = refl; are = (short_bytes 2 (message_text dense_entries) refl refl refl, tt) };
  nodes = [];
  nodes_are = tt;
  dense = example_nodes;
  dense_are = dense_is;
  both = refl;
  ways_are = tt;
}

ways_are : IsGroup [] scale (message_text ways_group) (record { nodes = []; ways = example_way ∷ [] })
ways_are = record {
  entries = ways_group;
  written = record { text = refl; are = (short_bytes 3 (message_text way_entries) refl refl refl, tt) };
  nodes = [];
  nodes_are = tt;
  dense = [];
  dense_are = refl;
  both = refl;
  ways_are = (way_is, tt);
}

block_is : IsBlock (message_text block_entries) example_map
block_is = record {
  entries = block_entries;
  written = record { text = refl; are = (short_bytes 2 (message_text nodes_group) refl refl refl, (four, (short_bytes 2 (message_text ways_group) refl refl refl, tt))) };
  texts = [];
  table = record { entries = []; written = record { text = refl; are = tt }; strings = refl; are = tt };
  scale = scale;
  granularity = refl;
  lat_offset = refl;
  lon_offset = refl;
  groups = record { nodes = example_nodes; ways = [] } ∷ record { nodes = []; ways = example_way ∷ [] } ∷ [];
  groups_are = (nodes_are, (ways_are, tt));
  all = refl;
}

header_is : IsHeader (message_text header_entries)
header_is = record {
  entries = header_entries;
  written = record { text = refl; are = (short_bytes 4 (codes "OsmSchema-V0.6") refl refl refl, (short_bytes 4 (codes "DenseNodes") refl refl refl, tt)) };
  known = (inl refl, (inr refl, tt));
}

raw_is : (content : List ℕ) → ltb (length content) 128 ≡ true → IsRaw (blob_of content) content
raw_is content small = record { entries = bytes_entry 1 content ∷ []; written = record { text = refl; are = (short_bytes 1 content refl refl small, tt) }; last = refl }

blob_is : (kind : Kind) (name content : List ℕ) (part : OsmMap) → IsNamed kind name → BlobSays kind (blob_of content) part → ltb (length name) 128 ≡ true → ltb (length (blob_of content)) 128 ≡ true → ltb (length (message_text (blob_header name content))) 65536 ≡ true → IsBlob kind (blob_bytes name content) part
blob_is kind name content part named says a b d =
    let small = ltb-true (length (blob_of content)) 128 b in
    record {
      header = message_text (blob_header name content);
      blob = blob_of content;
      text = refl;
      short = ltb-true (length (message_text (blob_header name content))) 65536 d;
      entries = blob_header name content;
      written = record { text = refl; are = (short_bytes 1 name refl refl a, (short_number 3 (length (blob_of content) ∷ []) refl refl (one (length (blob_of content)) small), tt)) };
      name = name;
      type = refl;
      named = named;
      datasize = ap (λ (n : ℕ). Some n) (omega arith);
      few = omega arith;
      says = says;
    }

pub file_is : FilesThereAre
file_is = record {
  first = blob_bytes (codes "OSMHeader") (message_text header_entries);
  header = blob_is Kind.Header (codes "OSMHeader") (message_text header_entries) no_map refl (message_text header_entries, raw_is (message_text header_entries) refl, header_is, refl) refl refl refl;
  blobs = blob_bytes (codes "OSMData") (message_text block_entries) ∷ [];
  parts = example_map ∷ [];
  blobs_are = ((Kind.Data, blob_is Kind.Data (codes "OSMData") (message_text block_entries) example_map refl (message_text block_entries, raw_is (message_text block_entries) refl, block_is) refl refl refl), tt);
  text = refl;
  all = refl;
}
