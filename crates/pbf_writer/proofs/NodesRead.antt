-- Dense nodes that are written are read again.
use Rattle.std.proofs.lemmas.Bool.{eq-eqb, le-leb, lt-ltb}
use Rattle.std.proofs.lemmas.Int.{ints, fits_signed_from_abs, wrapping_sub_is, int_wrap_fits}
use Rattle.std.proofs.lemmas.List.{length-map}
use Rattle.std.proofs.lemmas.List.Elements.{All-map, All-weaker, recursion_from_All}
use Rattle.std.proofs.Math.IntN.{+ℤ_comm, -ℤ-+ℤ_cancel}
use Rattle.std.proofs.Common.{◌≡◌, ◌∙◌, ℕ, ◌+◌, ◌*◌, ◌/◌, ◌%◌, ◌^◌, ◌<◌, ◌≤◌, ◌==◌, suc, ℤ, pos, negsuc, ◌+ℤ◌, ◌-ℤ◌, ◌*ℤ◌, nat_abs, List, [], ◌∷◌, ◌++◌, length, map, Some, None, Ok, true, refl, sym, ap, arith, append-nil}
use Rattle.std.specs.List.{All, AllByRecursion}
use Rattle.std.specs.Int.{int_div_euclid, int_wrapping_sub, w64}
use Rattle.gh_base.specs.declared.map.OsmNode.{OsmNode}
use Rattle.pbf_wire.specs.declared.messages.Dense.{Dense}
use Rattle.pbf_wire.specs.declared.messages.Scale.{Scale}
use Rattle.pbf_wire.specs.Pieces.{part_of}
use Rattle.pbf_wire.specs.Deltas.{zigzag_of, is_id, ids_from, coordinate_of, coordinates_from}
use Rattle.pbf_wire.specs.Dense.{dense_of, dense_with, nodes_of}
use Rattle.pbf_wire.specs.Parts.{message_text, sint, deltas}
use Rattle.gh_base.specs.Maps.{IsShort, IsFileNode}
use Rattle.pbf_wire.specs.Writing.{dense_parts}
use Rattle.pbf_writer.proofs.FieldsRead.{IsPart, message_read}
use Rattle.pbf_writer.proofs.ListsRead.{values_read}

zigzag_again : (z : ℤ) → zigzag_of (sint z) ≡ z
zigzag_again (pos n) =
    let even : 2 * n % 2 ≡ 0 = omega arith in
    let half : 2 * n / 2 ≡ n = omega arith in
    rw (even, half) refl
zigzag_again (negsuc n) =
    let odd : (2 * n + 1) % 2 ≡ 1 = omega arith in
    let half : (2 * n + 1) / 2 ≡ n = omega arith in
    rw (odd, half) refl

-- numbers of less than 63 bits
abbrev pub IsSmall : ℤ → Type 0
IsSmall z = nat_abs z < 2 ^ 62

-- a delta fits in 64 bits
pub delta_is : (last z : ℤ) → IsSmall last → IsSmall z → int_wrapping_sub w64 z last ≡ z -ℤ last
delta_is last z small_last small =
    let fits_z = fits_signed_from_abs w64 z (omega (arith, ints)) in
    let fits_last = fits_signed_from_abs w64 last (omega (arith, ints)) in
    let fits_both = fits_signed_from_abs w64 (z -ℤ last) (omega (arith, ints)) in
    wrapping_sub_is w64 z last fits_z fits_last ∙ int_wrap_fits w64 (z -ℤ last) fits_both

-- and behind the number before it makes the number
pub delta_again : (last z : ℤ) → IsSmall last → IsSmall z → last +ℤ zigzag_of (sint (int_wrapping_sub w64 z last)) ≡ z
delta_again last z small_last small =
    rw (delta_is last z small_last small, zigzag_again (z -ℤ last)) (+ℤ_comm last (z -ℤ last) ∙ -ℤ-+ℤ_cancel z last)

pub short_id : (z : ℤ) → IsShort z → is_id z ≡ true
short_id z h = lt-ltb (nat_abs z) 1000000000000000000 h

pub small_short : (z : ℤ) → IsShort z → IsSmall z
small_short z h = omega arith

pub ids_again : (place : ℕ) (last : ℤ) (ids : List ℤ) → IsSmall last → AllByRecursion IsShort ids → ids_from place last (deltas last ids) ≡ Ok ids
ids_again place last [] small h = refl
ids_again place last (id ∷ ids) small h = rw (delta_again last id small (small_short id h.0), short_id id h.0, ids_again place id ids (small_short id h.0) h.1) refl

-- in units of a hundredth of 1e-7 degree and back
unit_again : (z : ℤ) → int_div_euclid (pos 100 *ℤ z +ℤ pos 0) (pos 100) ≡ z
unit_again (pos n) =
    let same : (100 * n + 0) / 100 ≡ n = omega arith in
    rw same refl
unit_again (negsuc n) =
    let same : pos 100 *ℤ negsuc n +ℤ pos 0 ≡ negsuc (100 * n + 99) = omega (arith, ints) in
    let part : (100 * n + 99) / 100 ≡ n = omega arith in
    rw (same, part) refl

coordinate_again : (z : ℤ) (most : ℕ) → nat_abs z ≤ most → coordinate_of (record { granularity = pos 100; offset = pos 0; most = most }) z ≡ Some z
unfolding coordinate_of
coordinate_again z most h = rw (unit_again z, le-leb (nat_abs z) most h) refl

coordinates_again : (place most : ℕ) (last : ℤ) (zs : List ℤ) → most < 2 ^ 62 → IsSmall last → AllByRecursion (λ z. nat_abs z ≤ most) zs → coordinates_from place (record { granularity = pos 100; offset = pos 0; most = most }) last (deltas last zs) ≡ Ok zs
coordinates_again place most last [] low small h = refl
coordinates_again place most last (z ∷ zs) low small h =
    let near = h.0 in
    let next : IsSmall z = omega arith in
    rw (delta_again last z small next, coordinate_again z most near, coordinates_again place most z zs low next h.1) refl

pub zero_small : IsSmall (pos 0)
zero_small = omega arith

pub length-deltas : (last : ℤ) (zs : List ℤ) → length (deltas last zs) ≡ length zs
length-deltas last [] = refl
length-deltas last (z ∷ zs) = ap suc (length-deltas z zs)

sides_again : (nodes : List OsmNode) → nodes_of (map (λ node. node.id) nodes) (map (λ node. node.place.lat) nodes) (map (λ node. node.place.lon) nodes) ≡ nodes
sides_again [] = refl
sides_again (node ∷ nodes) = ap (λ l. node ∷ l) (sides_again nodes)

-- what is true of each item, of what each becomes
pub all_of : {X Y : Type 0} (P : X → Type 0) (Q : Y → Type 0) (f : X → Y) → ((x : X) → P x → Q (f x)) → (xs : List X) → All P xs → AllByRecursion Q (map f xs)
all_of P Q f h xs all = recursion_from_All Q (map f xs) (All-map Q f xs (All-weaker P (λ x. Q (f x)) h xs all))

-- the scale of a block without one
abbrev pub plain_scale : Scale
plain_scale = record { granularity = pos 100; lat_offset = pos 0; lon_offset = pos 0 }

-- nodes as they are written
abbrev pub dense_message : ℕ → List OsmNode → Dense
dense_message place nodes = record { place = place; ids = deltas (pos 0) (map (λ node. node.id) nodes); lats = deltas (pos 0) (map (λ node. node.place.lat) nodes); lons = deltas (pos 0) (map (λ node. node.place.lon) nodes); tags = []; bad = None }

same_length : (xs ys : List ℤ) → length xs ≡ length ys → (length (deltas (pos 0) xs) == length (deltas (pos 0) ys)) ≡ true
same_length xs ys e = rw (length-deltas (pos 0) xs, length-deltas (pos 0) ys) (eq-eqb (length xs) (length ys) e)

pub dense_again : (place : ℕ) (nodes : List OsmNode) → All IsFileNode nodes → dense_with plain_scale (dense_message place nodes) ≡ Ok nodes
unfolding dense_with
dense_again place nodes all =
    let ids = map (λ (node : OsmNode). node.id) nodes in
    let lats = map (λ (node : OsmNode). node.place.lat) nodes in
    let lons = map (λ (node : OsmNode). node.place.lon) nodes in
    let first : (length (deltas (pos 0) ids) == length (deltas (pos 0) lats)) ≡ true = same_length ids lats (length-map nodes (λ node. node.id) ∙ sym (length-map nodes (λ node. node.place.lat))) in
    let second : (length (deltas (pos 0) ids) == length (deltas (pos 0) lons)) ≡ true = same_length ids lons (length-map nodes (λ node. node.id) ∙ sym (length-map nodes (λ node. node.place.lon))) in
    let short = all_of IsFileNode IsShort (λ (node : OsmNode). node.id) (λ node h. h.id) nodes all in
    let north = all_of IsFileNode (λ z. nat_abs z ≤ 900000000) (λ (node : OsmNode). node.place.lat) (λ node h. omega (arith, ints, h.place.south, h.place.north)) nodes all in
    let east = all_of IsFileNode (λ z. nat_abs z ≤ 1800000000) (λ (node : OsmNode). node.place.lon) (λ node h. omega (arith, ints, h.place.west, h.place.east)) nodes all in
    rw (first, second, ids_again place (pos 0) ids zero_small short, coordinates_again place 900000000 (pos 0) lats (omega arith) zero_small north, coordinates_again place 1800000000 (pos 0) lons (omega arith) zero_small east, sides_again nodes) refl

-- one stretch that holds them
pub dense_read : (bytes : List ℕ) (start end place : ℕ) (nodes : List OsmNode) → AllByRecursion IsPart (dense_parts nodes) → part_of bytes start end ≡ message_text (dense_parts nodes) → dense_of bytes (record { start = start; end = end } ∷ []) place ≡ dense_message place nodes
unfolding dense_of
dense_read bytes start end place nodes good e =
    let parts = dense_parts nodes in
    let content = message_text parts in
    let whole : part_of bytes start end ++ [] ≡ content = append-nil (part_of bytes start end) ∙ e in
    let run = message_read parts content 0 good refl in
    let ids = values_read parts 1 0 content good (tt, (tt, (tt, tt))) refl in
    let lats = values_read parts 8 0 content good (tt, (tt, (tt, tt))) refl in
    let lons = values_read parts 9 0 content good (tt, (tt, (tt, tt))) refl in
    let tags = values_read parts 10 0 content good (tt, (tt, (tt, tt))) refl in
    rw (whole, run, ids, lats, lons, tags, append-nil (deltas (pos 0) (map (λ node. node.id) nodes)), append-nil (deltas (pos 0) (map (λ node. node.place.lat) nodes)), append-nil (deltas (pos 0) (map (λ node. node.place.lon) nodes))) refl
