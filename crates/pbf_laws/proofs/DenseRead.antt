-- Nodes that are read one by one are read from their differences.
use Rattle.std.proofs.Common.{◌≡◌, ◌∙◌, ℕ, ◌+◌, ◌*◌, ℤ, pos, negsuc, ◌+ℤ◌, ◌-ℤ◌, List, [], ◌∷◌, map, length, Bool, true, false, eqb, Option, Some, None, Result, Ok, Err, refl, ap, sym, subst, arith}
use Rattle.std.specs.Prelude.{not, ◌||◌, ◌==◌}
use Rattle.std.proofs.lemmas.Bool.{eq-eqb}
use Rattle.std.proofs.lemmas.Int.{ints}
use Rattle.std.proofs.lemmas.List.{length-map}
use Rattle.gh_base.specs.declared.kinds.PbfKind.{PbfKind}
use Rattle.gh_base.specs.declared.kinds.PbfKind.TheVariants.{BadId, BadPlace}
use Rattle.gh_base.specs.declared.map.OsmNode.{OsmNode}
use Rattle.pbf_wire.specs.declared.messages.Axis.{Axis}
use Rattle.pbf_wire.specs.declared.messages.Scale.{Scale}
use Rattle.pbf_wire.specs.Wire.{◌>>=◌}
use Rattle.pbf_wire.specs.Faults.{◌>>◌, refuse, or_fault}
use Rattle.pbf_wire.specs.Deltas.{zigzag_of, is_id, ids_from, coordinate_of, coordinates_from}
use Rattle.pbf_wire.specs.Nodes.{lat_axis, lon_axis, node_with}
use Rattle.pbf_wire.specs.Dense.{nodes_of, dense_with}
use Rattle.pbf_laws.specs.DenseNodes.{Written, sint, plain, differences, dense, AreRead, DenseNodesAreNodes}
use Rattle.pbf_laws.proofs.Varints.{zigzag}

zig : (z : ℤ) → zigzag_of (sint z) ≡ z
zig (pos n) = zigzag.positive n
zig (negsuc n) = zigzag.negative n

back : (last z : ℤ) → last +ℤ (z -ℤ last) ≡ z
back last z = omega (arith, ints)

record IsNode (scale : Scale) (w : Written) (n : OsmNode) : Type 0 where
  id : n.id ≡ w.id
  short : is_id w.id ≡ true
  lat : coordinate_of (lat_axis scale) w.lat ≡ Some n.place.lat
  lon : coordinate_of (lon_axis scale) w.lon ≡ Some n.place.lon

parts : (place : ℕ) (t : Bool) (id : ℤ) (y x : Option ℤ) (n : OsmNode) →
    (refuse (not t) place BadId >> (or_fault y place BadPlace >>= λ lat. or_fault x place BadPlace >>= λ lon. Ok (record { id = id; place = record { lat = lat; lon = lon } }))) ≡ Ok n →
    (t ≡ true) × (y ≡ Some n.place.lat) × (x ≡ Some n.place.lon) × (n.id ≡ id)
parts place true id (Some y) (Some x) n e =
    let same : record { id = id; place = record { lat = y; lon = x } } ≡ n = cc in
    (refl, ap (λ (m : OsmNode). Some m.place.lat) same, ap (λ (m : OsmNode). Some m.place.lon) same, sym (ap (λ (m : OsmNode). m.id) same))
parts place true id (Some y) None n e = cc
parts place true id None x n e = cc
parts place false id y x n e = cc

is_node : (scale : Scale) (place : ℕ) (w : Written) (n : OsmNode) → node_with scale (plain place w) ≡ Ok n → IsNode scale w n
unfolding node_with
is_node scale place w n e =
    let opened = rw (zig w.id, zig w.lat, zig w.lon) at e in
    let p = parts place (is_id w.id) w.id (coordinate_of (lat_axis scale) w.lat) (coordinate_of (lon_axis scale) w.lon) n opened in
    record { id = p.3; short = p.0; lat = p.1; lon = p.2 }

ids_read : (scale : Scale) (place : ℕ) (last : ℤ) (ws : List Written) (ns : List OsmNode) → AreRead scale place ws ns → ids_from place last (differences last (map (λ (w : Written). w.id) ws)) ≡ Ok (map (λ (n : OsmNode). n.id) ns)
ids_read scale place last [] [] h = refl
ids_read scale place last [] (n ∷ ns) h = absurd h
ids_read scale place last (w ∷ ws) [] h = absurd h
ids_read scale place last (w ∷ ws) (n ∷ ns) h =
    let is = is_node scale place w n h.0 in
    rw (zig (w.id -ℤ last), back last w.id, is.short, ids_read scale place w.id ws ns h.1, is.id) refl

abbrev AllAre : Axis → (Written → ℤ) → (OsmNode → ℤ) → List Written → List OsmNode → Type 0
AllAre axis of at [] [] = Unit {0}
AllAre axis of at (w ∷ ws) (n ∷ ns) = (coordinate_of axis (of w) ≡ Some (at n)) × AllAre axis of at ws ns
AllAre axis of at [] (n ∷ ns) = ⊥
AllAre axis of at (w ∷ ws) [] = ⊥

-- latitudes and longitudes alike
coordinates_read : (axis : Axis) (of : Written → ℤ) (at : OsmNode → ℤ) (place : ℕ) (last : ℤ) (ws : List Written) (ns : List OsmNode) → AllAre axis of at ws ns → coordinates_from place axis last (differences last (map of ws)) ≡ Ok (map at ns)
coordinates_read axis of at place last [] [] h = refl
coordinates_read axis of at place last [] (n ∷ ns) h = absurd h
coordinates_read axis of at place last (w ∷ ws) [] h = absurd h
coordinates_read axis of at place last (w ∷ ws) (n ∷ ns) h =
    rw (zig (of w -ℤ last), back last (of w), h.0, coordinates_read axis of at place (of w) ws ns h.1) refl

lats : (scale : Scale) (place : ℕ) (ws : List Written) (ns : List OsmNode) → AreRead scale place ws ns → AllAre (lat_axis scale) (λ (w : Written). w.lat) (λ (n : OsmNode). n.place.lat) ws ns
lats scale place [] [] h = tt
lats scale place [] (n ∷ ns) h = absurd h
lats scale place (w ∷ ws) [] h = absurd h
lats scale place (w ∷ ws) (n ∷ ns) h = ((is_node scale place w n h.0).lat, lats scale place ws ns h.1)

lons : (scale : Scale) (place : ℕ) (ws : List Written) (ns : List OsmNode) → AreRead scale place ws ns → AllAre (lon_axis scale) (λ (w : Written). w.lon) (λ (n : OsmNode). n.place.lon) ws ns
lons scale place [] [] h = tt
lons scale place [] (n ∷ ns) h = absurd h
lons scale place (w ∷ ws) [] h = absurd h
lons scale place (w ∷ ws) (n ∷ ns) h = ((is_node scale place w n h.0).lon, lons scale place ws ns h.1)

as_long : (last : ℤ) (zs : List ℤ) → length (differences last zs) ≡ length zs
as_long last [] = refl
as_long last (z ∷ zs) = omega (arith, as_long z zs)

even : (of at : Written → ℤ) (ws : List Written) → eqb (length (differences (pos 0) (map of ws))) (length (differences (pos 0) (map at ws))) ≡ true
even of at ws = eq-eqb _ _ (as_long (pos 0) (map of ws) ∙ (length-map ws of ∙ sym (as_long (pos 0) (map at ws) ∙ length-map ws at)))

side_by_side : (ns : List OsmNode) → nodes_of (map (λ (n : OsmNode). n.id) ns) (map (λ (n : OsmNode). n.place.lat) ns) (map (λ (n : OsmNode). n.place.lon) ns) ≡ ns
side_by_side [] = refl
side_by_side (n ∷ ns) = ap (λ (rest : List OsmNode). n ∷ rest) (side_by_side ns)

pub dense_read : DenseNodesAreNodes
unfolding dense_with
dense_read scale place ws ns h =
    rw (
      even (λ (w : Written). w.id) (λ (w : Written). w.lat) ws,
      even (λ (w : Written). w.id) (λ (w : Written). w.lon) ws,
      ids_read scale place (pos 0) ws ns h,
      coordinates_read (lat_axis scale) (λ (w : Written). w.lat) (λ (n : OsmNode). n.place.lat) place (pos 0) ws ns (lats scale place ws ns h),
      coordinates_read (lon_axis scale) (λ (w : Written). w.lon) (λ (n : OsmNode). n.place.lon) place (pos 0) ws ns (lons scale place ws ns h),
      side_by_side ns,
    ) refl
