-- A number holds the values of one road in a direction, and of no other.
use Rattle.std.proofs.Common.{◌≡◌, ℕ, Bool, true, false, refl, sym, ◌∙◌, arith}
use Rattle.std.specs.Int.{from_bool}
use Rattle.encoded_values.specs.Values.{Values}
use Rattle.value_plan.specs.Road.{HoldsAlong}

flag_same : (a b : Bool) → from_bool a ≡ from_bool b → a ≡ b
flag_same true true e = refl
flag_same true false e = absurd (omega arith)
flag_same false true e = absurd (omega arith)
flag_same false false e = refl

pub same : (number : ℕ) (reverse : Bool) (a b : Values) → HoldsAlong number a reverse → HoldsAlong number b reverse → a ≡ b
same number reverse a b h k = λ i. record {
  road_class = (sym h.road_class ∙ k.road_class) i;
  road_class_link = flag_same a.road_class_link b.road_class_link (sym h.road_class_link ∙ k.road_class_link) i;
  roundabout = flag_same a.roundabout b.roundabout (sym h.roundabout ∙ k.roundabout) i;
  surface = (sym h.surface ∙ k.surface) i;
  toll = (sym h.toll ∙ k.toll) i;
  lanes = (sym h.lanes ∙ k.lanes) i;
  max_speed = (sym h.max_speed ∙ k.max_speed) i;
  car_access = flag_same a.car_access b.car_access (sym h.car_access ∙ k.car_access) i;
  bike_access = flag_same a.bike_access b.bike_access (sym h.bike_access ∙ k.bike_access) i;
  foot_access = flag_same a.foot_access b.foot_access (sym h.foot_access ∙ k.foot_access) i;
  car_speed = (sym h.car_speed ∙ k.car_speed) i;
  bike_speed = (sym h.bike_speed ∙ k.bike_speed) i;
  foot_speed = (sym h.foot_speed ∙ k.foot_speed) i;
}
