-- The parts of a map that can be written fit.
use Rattle.std.proofs.lemmas.Int.{ints}
use Rattle.std.proofs.lemmas.Str.{IsUtf8-nil}
use Rattle.std.proofs.lemmas.List.{length-map}
use Rattle.std.proofs.lemmas.List.Elements.{All-take}
use Rattle.std.proofs.Common.{ℕ, ◌+◌, ◌*◌, ◌^◌, ◌<◌, ◌≤◌, ℤ, pos, negsuc, ◌-ℤ◌, nat_abs, List, [], ◌∷◌, ◌++◌, length, map, take, All, arith, length-append, length-take}
use Rattle.std.specs.List.{AllByRecursion}
use Rattle.gh_base.specs.declared.map.OsmNode.{OsmNode}
use Rattle.pbf_wire.specs.Put.{varint_bytes, bytes_field}
use Rattle.pbf_wire.specs.Parts.{Part, part_text, message_text, varints_text, sint, deltas}
use Rattle.gh_base.specs.Maps.{IsFileNode}
use Rattle.pbf_wire.specs.Writing.{dense_parts, block_text, nodes_block}
use Rattle.pbf_writer.proofs.Counts.{varint_most, field_most}
use Rattle.pbf_writer.proofs.FieldsRead.{IsPart, bytes_some}
use Rattle.pbf_writer.proofs.NodesRead.{IsSmall, small_short, delta_is, length-deltas, zero_small, all_of}
use Rattle.pbf_writer.proofs.BlocksRead.{nodes_block_read}
use Rattle.pbf_writer.proofs.MapsRead.{IsRead, AreRead}

-- a difference of numbers of 62 bits
sint_fits : (z : ℤ) → nat_abs z < 2 ^ 63 → sint z < 2 ^ 64
sint_fits (pos n) h = omega arith
sint_fits (negsuc n) h = omega arith

pub deltas_fit : (last : ℤ) (zs : List ℤ) → IsSmall last → AllByRecursion IsSmall zs → AllByRecursion (λ v. v < 2 ^ 64) (deltas last zs)
deltas_fit last [] small h = tt
deltas_fit last (z ∷ zs) small h =
    let here = h.0 in
    let near : nat_abs (z -ℤ last) < 2 ^ 63 = omega (arith, ints) in
    (rw (delta_is last z small h.0) (sint_fits (z -ℤ last) near), deltas_fit z zs h.0 h.1)

varints_most : (vs : List ℕ) → length (varints_text vs) ≤ 10 * length vs
varints_most [] = omega arith
varints_most (v ∷ vs) = omega (arith, varint_most v, varints_most vs, length-append (varint_bytes v) (varints_text vs))

packed_most : (number : ℕ) (vs : List ℕ) → length (part_text (Part.Packed number vs)) ≤ length (varints_text vs) + 20
packed_most number [] = omega arith
packed_most number (v ∷ vs) = field_most number (varints_text (v ∷ vs))

pub packed_least : (number : ℕ) (vs : List ℕ) → length (varints_text vs) ≤ length (part_text (Part.Packed number vs))
packed_least number [] = omega arith
packed_least number (v ∷ vs) = omega (arith, bytes_some number (varints_text (v ∷ vs)))

-- the deltas of a list of a block's nodes
list_fits : (number : ℕ) (P : OsmNode → Type 0) (f : OsmNode → ℤ) (nodes : List OsmNode) → 0 < number → number < 2 ^ 32 → length nodes ≤ 8000 → ((node : OsmNode) → P node → IsSmall (f node)) → All P nodes →
    IsPart (Part.Packed number (deltas (pos 0) (map f nodes))) × (length (part_text (Part.Packed number (deltas (pos 0) (map f nodes)))) ≤ 80020)
list_fits number P f nodes some low few small all =
    let zs = map f nodes in
    let long = length-map nodes f in
    let same = length-deltas (pos 0) (map f nodes) in
    let one = varints_most (deltas (pos 0) (map f nodes)) in
    let two = packed_most number (deltas (pos 0) (map f nodes)) in
    ((some, low, omega arith, deltas_fit (pos 0) (map f nodes) zero_small (all_of P IsSmall f small nodes all)), omega arith)

nodes_read : (nodes : List OsmNode) → length nodes ≤ 8000 → All IsFileNode nodes → IsRead (λ done. record { nodes = done; ways = [] }) nodes_block nodes
unfolding nodes_block block_text
nodes_read nodes few all =
    let ids = list_fits 1 IsFileNode (λ (node : OsmNode). node.id) nodes (omega arith) (omega arith) few (λ node h. small_short node.id h.id) all in
    let lats = list_fits 8 IsFileNode (λ (node : OsmNode). node.place.lat) nodes (omega arith) (omega arith) few (λ node h. omega (arith, ints, h.place.south, h.place.north)) all in
    let lons = list_fits 9 IsFileNode (λ (node : OsmNode). node.place.lon) nodes (omega arith) (omega arith) few (λ node h. omega (arith, ints, h.place.west, h.place.east)) all in
    let dense = message_text (dense_parts nodes) in
    let small : length (message_text (dense_parts nodes)) ≤ 240060 = omega (arith, ids.1, lats.1, lons.1, length-append {A = ℕ}) in
    let inner = field_most 2 (message_text (dense_parts nodes)) in
    let group = field_most 2 (bytes_field 2 (message_text (dense_parts nodes)) ++ []) in
    let word = field_most 1 [] in
    let table = field_most 1 (bytes_field 1 [] ++ []) in
    record {
      small = omega (arith, length-append {A = ℕ});
      adds = λ file done piece there. nodes_block_read file (record { nodes = done; ways = [] }) piece nodes (ids.0, (lats.0, (lons.0, tt))) (record {
        fields = ((omega arith, omega arith, omega (arith, length-append {A = ℕ})), ((omega arith, omega arith, omega (arith, length-append {A = ℕ})), tt));
        words = ((omega arith, omega arith, omega arith), tt);
        texts = (IsUtf8-nil, tt);
      }) all (omega arith) there;
    }

-- the first nodes of a map are a block that is read
pub nodes_are_read : AreRead IsFileNode (λ done. record { nodes = done; ways = [] }) (λ left. 8000) nodes_block
nodes_are_read node nodes all =
    let size = length-take 8000 (node ∷ nodes) in
    (omega arith, nodes_read (take 8000 (node ∷ nodes)) (omega arith) (All-take IsFileNode 8000 (node ∷ nodes) all))
