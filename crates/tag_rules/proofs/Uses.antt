-- A way has values exactly where some vehicle moves on it.
use Rattle.std.proofs.Common.{◌≡◌, ◌<◌, ℕ, Bool, true, false, ◌||◌, ◌⊎◌, inl, inr, Option, Some, None, List, refl, is_some, nat_lt, arith, codes, if◌then◌else◌}
use Rattle.std.proofs.lemmas.Bool.Decides.{nat_tests}
use Rattle.gh_base.specs.declared.map.OsmTag.{OsmTag}
use Rattle.gh_base.specs.declared.query.Vehicle.{Vehicle}
use Rattle.gh_base.specs.declared.query.Vehicle.TheVariants.{Car, Bike, Foot}
use Rattle.encoded_values.specs.Values.{TwoValues}
use Rattle.tag_rules.specs.declared.highways.Highway.{Highway}
use Rattle.tag_rules.specs.Tags.{tag_of}
use Rattle.tag_rules.specs.Values.{speed_by, values_in, has_access, values_on, row_of, values_by, SomeMoves, IsUsed}

above : (n : ℕ) → nat_lt 0 n ≡ true → 0 < n
above n test = grind (arith, nat_tests)

test_of : (n : ℕ) → 0 < n → nat_lt 0 n ≡ true
test_of n more = grind (arith, nat_tests)

one_of : (x y z : Bool) → (x || y || z) ≡ true → (x ≡ true) ⊎ ((y ≡ true) ⊎ (z ≡ true))
one_of true y z h = inl refl
one_of false true z h = inr (inl refl)
one_of false false z h = inr (inr h)

second : (x z : Bool) → (x || true || z) ≡ true
second true z = refl
second false z = refl

third : (x y : Bool) → (x || y || true) ≡ true
third true y = refl
third false true = refl
third false false = refl

-- where a direction is open, somebody moves
moves_in : (reverse : Bool) (highway : Highway) (tags : List OsmTag) → has_access (values_in reverse highway tags) ≡ true → SomeMoves (Some highway) tags
moves_in reverse highway tags open_there =
    elim (one_of (nat_lt 0 (speed_by Car reverse highway tags)) (nat_lt 0 (speed_by Bike reverse highway tags)) (nat_lt 0 (speed_by Foot reverse highway tags)) open_there) [
      | inl car ↦ record { vehicle = Car; reverse = reverse; moves = above (speed_by Car reverse highway tags) car }
      | inr (inl bike) ↦ record { vehicle = Bike; reverse = reverse; moves = above (speed_by Bike reverse highway tags) bike }
      | inr (inr foot) ↦ record { vehicle = Foot; reverse = reverse; moves = above (speed_by Foot reverse highway tags) foot }
    ]

-- where somebody moves, the direction is open
open_to : (vehicle : Vehicle) (reverse : Bool) (highway : Highway) (tags : List OsmTag) → 0 < speed_by vehicle reverse highway tags → has_access (values_in reverse highway tags) ≡ true
open_to Car reverse highway tags moves = rw (test_of (speed_by Car reverse highway tags) moves) refl
open_to Bike reverse highway tags moves = rw (test_of (speed_by Bike reverse highway tags) moves) (second (nat_lt 0 (speed_by Car reverse highway tags)) (nat_lt 0 (speed_by Foot reverse highway tags)))
open_to Foot reverse highway tags moves = rw (test_of (speed_by Foot reverse highway tags) moves) (third (nat_lt 0 (speed_by Car reverse highway tags)) (nat_lt 0 (speed_by Bike reverse highway tags)))

either : (a b : Bool) (v : TwoValues) → is_some (if a || b then Some v else None) ≡ true → (a ≡ true) ⊎ (b ≡ true)
either true b v h = inl refl
either false true v h = inr refl
either false false v h = cc

some_first : (a b : Bool) (v : TwoValues) → a ≡ true → is_some (if a || b then Some v else None) ≡ true
some_first a b v h = rw h refl

some_second : (a b : Bool) (v : TwoValues) → b ≡ true → is_some (if a || b then Some v else None) ≡ true
some_second true b v h = refl
some_second false b v h = rw h refl

moves_on : (row : Option Highway) (tags : List OsmTag) → is_some (values_on row tags) ≡ true → SomeMoves row tags
moves_on None tags there = cc
moves_on (Some highway) tags there =
    elim (either (has_access (values_in false highway tags)) (has_access (values_in true highway tags)) _ there)
    [ inl forward ↦ moves_in false highway tags forward | inr reverse ↦ moves_in true highway tags reverse ]

values_there : (highway : Highway) (tags : List OsmTag) (vehicle : Vehicle) (reverse : Bool) → 0 < speed_by vehicle reverse highway tags → is_some (values_on (Some highway) tags) ≡ true
values_there highway tags vehicle false moves = some_first (has_access (values_in false highway tags)) (has_access (values_in true highway tags)) _ (open_to vehicle false highway tags moves)
values_there highway tags vehicle true moves = some_second (has_access (values_in false highway tags)) (has_access (values_in true highway tags)) _ (open_to vehicle true highway tags moves)

values_where : (row : Option Highway) (tags : List OsmTag) → SomeMoves row tags → is_some (values_on row tags) ≡ true
values_where None tags moves = absurd (omega (arith, moves.moves))
values_where (Some highway) tags moves = values_there highway tags moves.vehicle moves.reverse moves.moves

pub used_by : (tags : List OsmTag) → is_some (values_by tags) ≡ true → IsUsed tags
used_by tags there = moves_on (row_of (tag_of (codes "highway") tags)) tags there

pub values_used : (tags : List OsmTag) → IsUsed tags → is_some (values_by tags) ≡ true
values_used tags moves = values_where (row_of (tag_of (codes "highway") tags)) tags moves

pub used_where : (tags : List OsmTag) (result : Option TwoValues) → result ≡ values_by tags → (is_some result ≡ true → IsUsed tags) × (IsUsed tags → is_some result ≡ true)
used_where tags result same = rw same (used_by tags, values_used tags)
