-- Nodes are read, plain and dense.
use Rattle.std.proofs.Common.{◌≡◌, ◌∙◌, ℕ, ◌%◌, ◌^◌, ℤ, pos, List, [], ◌∷◌, ◌++◌, length, map, Some, None, Ok, true, false, not, ◌&&◌, eqb, inl, inr, refl, sym, ap}
use Rattle.std.specs.Prelude.{◌==◌, ◌⊎◌}
use Rattle.std.specs.List.{AllByRecursion}
use Rattle.std.proofs.lemmas.Bool.{eq-eqb, ne_eqb, and_right}
use Rattle.std.proofs.lemmas.List.{length-map}
use Rattle.gh_base.specs.declared.map.OsmNode.{OsmNode}
use Rattle.pbf_wire.specs.declared.fields.Piece.{Piece}
use Rattle.pbf_wire.specs.declared.messages.Scale.{Scale}
use Rattle.pbf_wire.specs.declared.messages.Node.{Node}
use Rattle.pbf_wire.specs.declared.messages.Dense.{Dense}
use Rattle.pbf_wire.specs.Pieces.{joined_of}
use Rattle.pbf_wire.specs.Nodes.{node_of, node_with, lat_axis, lon_axis}
use Rattle.pbf_wire.specs.Dense.{dense_of, dense_with, nodes_of, after_tags, tags_fit}
use Rattle.pbf_file_laws.specs.Saying.{sint, differences}
use Rattle.pbf_file_laws.specs.Reading.{Stands}
use Rattle.pbf_file_laws.specs.Nodes.{IsNode, TagAt, pairs, keys_vals, HasKey, AreKeysVals, IsDense, NodesAreRead, DenseNodesAreRead}
use Rattle.pbf_file_laws.proofs.Runs.{message_read}
use Rattle.pbf_file_laws.proofs.Says.{scalar_read, list_read}
use Rattle.pbf_file_laws.proofs.Numbers.{zig, short_id, coordinate_read, ids_read, coordinates_read, as_long, pairwise_long}

node_is : (scale : Scale) (bytes content : List ℕ) (at : ℕ) (node : OsmNode) → Stands bytes at content → (h : IsNode scale content node) → node_of bytes at ≡ record { place = at; id = Some (sint node.id); lat = Some (sint h.lat); lon = Some (sint h.lon); bad = None }
unfolding node_of
node_is scale bytes content at node stands h =
    let run = message_read bytes content at h.entries stands h.written in
    let id = scalar_read bytes 1 run.spots h.entries run.are ∙ h.id in
    let lat = scalar_read bytes 8 run.spots h.entries run.are ∙ h.lat_says in
    let lon = scalar_read bytes 9 run.spots h.entries run.are ∙ h.lon_says in
    rw (run.read, id, lat, lon) refl

node_says : (scale : Scale) (content : List ℕ) (at : ℕ) (node : OsmNode) → (h : IsNode scale content node) → node_with scale (record { place = at; id = Some (sint node.id); lat = Some (sint h.lat); lon = Some (sint h.lon); bad = None }) ≡ Ok node
unfolding node_with
node_says scale content at node h =
    rw (zig node.id, zig h.lat, zig h.lon, short_id node.id h.short, coordinate_read (lat_axis scale) h.lat node.place.lat h.lat_is, coordinate_read (lon_axis scale) h.lon node.place.lon h.lon_is) refl

pub node_read : NodesAreRead
node_read scale bytes content at node stands h =
    let is = node_is scale bytes content at node stands h in
    (ap (λ (n : Node). n.bad) is, ap (node_with scale) is ∙ node_says scale content at node h)

-- what stands behind the tags of a node
end_of_tags : (rest : List ℕ) → after_tags (0 ∷ rest) ≡ Some rest
end_of_tags [] = refl
end_of_tags (n ∷ rest) = refl

behind_tags : (tags : List TagAt) (rest : List ℕ) → AllByRecursion HasKey tags → after_tags (pairs tags ++ 0 ∷ rest) ≡ Some rest
behind_tags [] rest keys = end_of_tags rest
behind_tags (tag ∷ tags) rest keys =
    let test : eqb (tag.key % 2 ^ 32) 0 ≡ false = ne_eqb (tag.key % 2 ^ 32) 0 keys.0 in
    rw test (behind_tags tags rest keys.1)

all_tags : (tags : List (List TagAt)) → AllByRecursion (AllByRecursion HasKey) tags → tags_fit (length tags) (keys_vals tags) ≡ true
all_tags [] keys = refl
all_tags (one ∷ tags) keys = rw (behind_tags one (keys_vals tags) keys.0) (all_tags tags keys.1)

tags_read : (count nodes : ℕ) (tags : List ℕ) → count ≡ nodes → (tags ≡ []) ⊎ AreKeysVals nodes tags → (not (length tags == 0) && not (tags_fit count tags)) ≡ false
tags_read count nodes tags e (inl none) = rw none refl
tags_read count nodes tags e (inr some) =
    let fit : tags_fit count tags ≡ true = rw (e, sym some.each, some.text) (all_tags some.tags some.keys) in
    and_right (not (length tags == 0)) (not (tags_fit count tags)) (ap not fit)

abbrev dense_message : ℕ → List ℤ → List ℤ → List ℤ → List ℕ → Dense
dense_message place ids lats lons tags = record { place = place; ids = differences (pos 0) ids; lats = differences (pos 0) lats; lons = differences (pos 0) lons; tags = tags; bad = None }

dense_is : (scale : Scale) (bytes content : List ℕ) (pieces : List Piece) (place : ℕ) (nodes : List OsmNode) → joined_of bytes pieces ≡ content → (h : IsDense scale content nodes) →
    dense_of bytes pieces place ≡ dense_message place (map (λ (node : OsmNode). node.id) nodes) h.lats h.lons h.tags
unfolding dense_of
dense_is scale bytes content pieces place nodes e h =
    let run = message_read content content 0 h.entries (record { before = []; whole = refl; place = refl }) h.written in
    let ids = list_read content 1 run.spots h.entries _ run.are h.ids in
    let lats = list_read content 8 run.spots h.entries _ run.are h.lats_say in
    let lons = list_read content 9 run.spots h.entries _ run.are h.lons_say in
    let tags = list_read content 10 run.spots h.entries _ run.are h.tags_say in
    rw (e, run.read, ids, lats, lons, tags) refl

side_by_side : (nodes : List OsmNode) → nodes_of (map (λ (node : OsmNode). node.id) nodes) (map (λ (node : OsmNode). node.place.lat) nodes) (map (λ (node : OsmNode). node.place.lon) nodes) ≡ nodes
side_by_side [] = refl
side_by_side (node ∷ nodes) = ap (λ (rest : List OsmNode). node ∷ rest) (side_by_side nodes)

dense_says : (scale : Scale) (content : List ℕ) (place : ℕ) (nodes : List OsmNode) → (h : IsDense scale content nodes) →
    dense_with scale (dense_message place (map (λ (node : OsmNode). node.id) nodes) h.lats h.lons h.tags) ≡ Ok nodes
unfolding dense_with
dense_says scale content place nodes h =
    let ids = map (λ (node : OsmNode). node.id) nodes in
    let count : length (differences (pos 0) ids) ≡ length nodes = as_long (pos 0) ids ∙ length-map nodes (λ (node : OsmNode). node.id) in
    let lat_count : length (differences (pos 0) h.lats) ≡ length nodes = as_long (pos 0) h.lats ∙ (pairwise_long _ h.lats (map (λ (node : OsmNode). node.place.lat) nodes) h.lats_are ∙ length-map nodes (λ (node : OsmNode). node.place.lat)) in
    let lon_count : length (differences (pos 0) h.lons) ≡ length nodes = as_long (pos 0) h.lons ∙ (pairwise_long _ h.lons (map (λ (node : OsmNode). node.place.lon) nodes) h.lons_are ∙ length-map nodes (λ (node : OsmNode). node.place.lon)) in
    rw (
      eq-eqb (length (differences (pos 0) ids)) (length (differences (pos 0) h.lats)) (count ∙ sym lat_count),
      eq-eqb (length (differences (pos 0) ids)) (length (differences (pos 0) h.lons)) (count ∙ sym lon_count),
      tags_read (length (differences (pos 0) ids)) (length nodes) h.tags count h.tags_are,
      ids_read place (pos 0) ids h.short,
      coordinates_read place (lat_axis scale) (pos 0) h.lats (map (λ (node : OsmNode). node.place.lat) nodes) h.lats_are,
      coordinates_read place (lon_axis scale) (pos 0) h.lons (map (λ (node : OsmNode). node.place.lon) nodes) h.lons_are,
      side_by_side nodes,
    ) refl

pub dense_read : DenseNodesAreRead
dense_read scale bytes content pieces place nodes e h =
    let is = dense_is scale bytes content pieces place nodes e h in
    (ap (λ (d : Dense). d.bad) is, ap (dense_with scale) is ∙ dense_says scale content place nodes h)
