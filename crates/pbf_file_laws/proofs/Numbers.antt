-- Numbers with a sign, coordinates, and lists of differences are read.
use Rattle.std.proofs.Common.{◌≡◌, ℕ, ◌+◌, ◌*◌, ◌%◌, ◌^◌, ◌<◌, suc, ℤ, pos, negsuc, ◌+ℤ◌, ◌-ℤ◌, ◌*ℤ◌, ◌≤ℤ◌, nat_abs, List, [], ◌∷◌, length, Some, Ok, true, false, eqb, leb, refl, ap, subst, arith}
use Rattle.std.proofs.lemmas.Bool.Decides.{nat_tests}
use Rattle.std.proofs.lemmas.Int.{ints, to_z-of_z}
use Rattle.std.specs.List.{AllByRecursion}
use Rattle.std.specs.Int.{int_div_euclid, cast_signed, w32, w64}
use Rattle.gh_base.specs.Maps.{IsShort}
use Rattle.pbf_wire.specs.declared.messages.Axis.{Axis}
use Rattle.pbf_wire.specs.Deltas.{zigzag_of, is_id, ids_from, coordinate_of, coordinates_from}
use Rattle.pbf_file_laws.specs.Saying.{sint, differences, Pairwise, complement, reach, IsInt64, IsInt32}
use Rattle.pbf_file_laws.specs.Nodes.{IsCoordinate}

pub zig : (z : ℤ) → zigzag_of (sint z) ≡ z
zig (pos n) =
    let even : eqb (2 * n % 2) 0 ≡ true = grind (arith, nat_tests) in
    rw even (ap (λ (k : ℕ). pos k) (omega arith))
zig (negsuc n) =
    let odd : eqb ((2 * n + 1) % 2) 0 ≡ false = grind (arith, nat_tests) in
    rw odd (ap (λ (k : ℕ). negsuc k) (omega arith))

int64_at : (z : ℤ) → reach z < 2 ^ 63 → cast_signed w64 (complement 64 z) ≡ z
int64_at (pos n) h = to_z-of_z w64 (pos n) (record { sfits = h })
int64_at (negsuc n) h = to_z-of_z w64 (negsuc n) (record { sfits = h })

int32_at : (z : ℤ) → reach z < 2 ^ 31 → cast_signed w32 (complement 32 z) ≡ z
int32_at (pos n) h = to_z-of_z w32 (pos n) (record { sfits = h })
int32_at (negsuc n) h = to_z-of_z w32 (negsuc n) (record { sfits = h })

pub int64_read : (number : ℕ) (z : ℤ) → IsInt64 number z → cast_signed w64 number ≡ z
int64_read number z h = rw h.same (int64_at z h.fits)

pub int32_read : (number : ℕ) (z : ℤ) → IsInt32 number z → cast_signed w32 (number % 2 ^ 32) ≡ z
int32_read number z h = rw h.same (int32_at z h.fits)

pub short_id : (z : ℤ) → IsShort z → is_id z ≡ true
short_id z h = grind (arith, nat_tests)

floor_low : (z : ℤ) → (pos 100 *ℤ int_div_euclid z (pos 100)) ≤ℤ z
floor_low (pos a) = omega (arith, ints)
floor_low (negsuc a) = omega (arith, ints)

floor_high : (z : ℤ) → (z +ℤ pos 1) ≤ℤ ((pos 100 *ℤ int_div_euclid z (pos 100)) +ℤ pos 100)
floor_high (pos a) = omega (arith, ints)
floor_high (negsuc a) = omega (arith, ints)

one_floor : (z q unit : ℤ) → (pos 100 *ℤ q) ≤ℤ z → (z +ℤ pos 1) ≤ℤ ((pos 100 *ℤ q) +ℤ pos 100) → (pos 100 *ℤ unit) ≤ℤ z → (z +ℤ pos 1) ≤ℤ ((pos 100 *ℤ unit) +ℤ pos 100) → q ≡ unit
one_floor z q unit a b d e = omega (arith, ints)

pub coordinate_read : (axis : Axis) (value unit : ℤ) → IsCoordinate axis.most axis.granularity axis.offset value unit → coordinate_of axis value ≡ Some unit
unfolding coordinate_of
coordinate_read axis value unit h =
    let turned : axis.offset +ℤ (axis.granularity *ℤ value) ≡ (axis.granularity *ℤ value) +ℤ axis.offset = omega (arith, ints) in
    let nano : ℤ = (axis.granularity *ℤ value) +ℤ axis.offset in
    let low = subst (λ (n : ℤ). (pos 100 *ℤ unit) ≤ℤ n) turned h.low in
    let high = subst (λ (n : ℤ). (n +ℤ pos 1) ≤ℤ ((pos 100 *ℤ unit) +ℤ pos 100)) turned h.high in
    let floor : int_div_euclid nano (pos 100) ≡ unit = one_floor nano (int_div_euclid nano (pos 100)) unit (floor_low nano) (floor_high nano) low high in
    let near = h.near in
    let test : leb (nat_abs unit) axis.most ≡ true = grind (arith, nat_tests) in
    rw (floor, test) refl

back : (last z : ℤ) → last +ℤ (z -ℤ last) ≡ z
back last z = omega (arith, ints)

pub ids_read : (place : ℕ) (last : ℤ) (ids : List ℤ) → AllByRecursion IsShort ids → ids_from place last (differences last ids) ≡ Ok ids
ids_read place last [] h = refl
ids_read place last (id ∷ ids) h = rw (zig (id -ℤ last), back last id, short_id id h.0, ids_read place id ids h.1) refl

pub coordinates_read : (place : ℕ) (axis : Axis) (last : ℤ) (values units : List ℤ) → Pairwise (IsCoordinate axis.most axis.granularity axis.offset) values units → coordinates_from place axis last (differences last values) ≡ Ok units
coordinates_read place axis last [] [] h = refl
coordinates_read place axis last [] (unit ∷ units) h = absurd h
coordinates_read place axis last (value ∷ values) [] h = absurd h
coordinates_read place axis last (value ∷ values) (unit ∷ units) h =
    rw (zig (value -ℤ last), back last value, coordinate_read axis value unit h.0, coordinates_read place axis value values units h.1) refl

pub as_long : (last : ℤ) (zs : List ℤ) → length (differences last zs) ≡ length zs
as_long last [] = refl
as_long last (z ∷ zs) = ap suc (as_long z zs)

pub pairwise_long : {X Y : Type 0} (R : X → Y → Type 0) (xs : List X) (ys : List Y) → Pairwise R xs ys → length xs ≡ length ys
pairwise_long R [] [] h = refl
pairwise_long R [] (y ∷ ys) h = absurd h
pairwise_long R (x ∷ xs) [] h = absurd h
pairwise_long R (x ∷ xs) (y ∷ ys) h = ap suc (pairwise_long R xs ys h.1)
