-- Values that are packed side by side are read where they are.
use Rattle.std.proofs.Common.{◌≡◌, ℕ, zero, suc, ◌+◌, ◌*◌, ◌/◌, ◌%◌, ◌^◌, ◌<◌, ◌≤◌, Bool, true, false, List, [], ◌∷◌, length, get_or, sym, ap, ◌∙◌, subst, inl, inr, arith}
use Rattle.std.specs.Int.{from_bool}
use Rattle.std.proofs.lemmas.Bool.{cases_lt}
use Rattle.std.proofs.lemmas.Nat.{pow-add, pow_below, shr-shr, shr_high, mod_low, mul-add-lt, shl_whole}
use Rattle.encoded_values.specs.Values.{TwoValues, AreTwoInRange}
use Rattle.value_plan.specs.Packing.{packed_onto, road_items, road_number}
use Rattle.value_plan.specs.Road.{HoldsAlong}

-- each value has the bits that it needs
abbrev Fit : List (ℕ × ℕ) → Type 0
Fit [] = Unit {0}
Fit (item ∷ items) = (item.1 < 2 ^ item.0) × Fit items

-- the bits of the items before one
abbrev bits_before : List (ℕ × ℕ) → ℕ → ℕ
bits_before [] k = 0
bits_before (item ∷ items) zero = 0
bits_before (item ∷ items) (suc k) = item.0 + bits_before items k

pub turned : (value power rest : ℕ) → value + power * rest ≡ rest * power + value
turned value power rest = omega arith

whole : (n : ℕ) → n / 1 ≡ n
whole n = omega arith

packed_at : (items : List (ℕ × ℕ)) (rest k : ℕ) (d : ℕ × ℕ) → Fit items → k < length items
    → packed_onto items rest / 2 ^ bits_before items k % 2 ^ (get_or items k d).0 ≡ (get_or items k d).1
packed_at [] rest k d fit l = absurd (omega arith)
packed_at (item ∷ items) rest zero d fit l =
    let above = packed_onto items rest in
    ap (λ (n : ℕ). n % 2 ^ item.0) (whole (item.1 + 2 ^ item.0 * above) ∙ turned item.1 (2 ^ item.0) above) ∙ mod_low above item.0 item.1 fit.0
packed_at (item ∷ items) rest (suc k) d fit l =
    let above = packed_onto items rest in
    let bits = bits_before items k in
    ap (λ (n : ℕ). n % 2 ^ (get_or items k d).0)
    (sym (shr-shr (item.1 + 2 ^ item.0 * above) item.0 bits)
    ∙ ap (λ (n : ℕ). n / 2 ^ bits) (ap (λ (n : ℕ). n / 2 ^ item.0) (turned item.1 (2 ^ item.0) above) ∙ shr_high above item.0 item.1 fit.0))
    ∙ packed_at items rest k d fit.1 (omega arith)

-- one more value below others is within the bits of all
pub above_fits : (number value bits more : ℕ) → number < 2 ^ bits → value < 2 ^ more → number * 2 ^ more + value < 2 ^ (bits + more)
above_fits number value bits more n v =
    (let place : more + bits ≡ bits + more = omega arith in subst (λ (p : ℕ). number * 2 ^ more + value < p) (sym (pow-add 2 more bits) ∙ ap (λ (k : ℕ). 2 ^ k) place) (mul-add-lt number (2 ^ more) value (2 ^ bits) n v))

pub in_128 : (n bits : ℕ) → n < 2 ^ bits → bits ≤ 128 → n < 2 ^ 128
in_128 n bits l few = elim (cases_lt bits 128) [
  | inl less ↦ (let p = pow_below bits 128 less in omega arith)
  | inr all ↦ (let whole : bits ≡ 128 = omega arith in subst (λ (k : ℕ). n < 2 ^ k) whole l)
]

pub moved : (number bits more : ℕ) → number < 2 ^ bits → bits + more ≤ 128 → number * 2 ^ more % 2 ^ 128 ≡ number * 2 ^ more
moved number bits more l few = shl_whole number bits more 128 l few

flag_fits : (b : Bool) → from_bool b < 2 ^ 1
flag_fits true = omega arith
flag_fits false = omega arith

module _ (number : ℕ) (t : TwoValues) (r : AreTwoInRange t) (e : number ≡ road_number t) where
  fits : Fit (road_items t)
  fits = (
    r.forward.road_class,
    (
      flag_fits t.forward.road_class_link,
      (
        flag_fits t.forward.roundabout,
        (
          omega (arith, r.forward.surface),
          (
            omega (arith, r.forward.toll),
            (
              omega (arith, r.forward.few_lanes),
              (
                omega (arith, r.forward.max_byte),
                (
                  flag_fits t.forward.car_access,
                  (
                    flag_fits t.reverse.car_access,
                    (
                      flag_fits t.forward.bike_access,
                      (
                        flag_fits t.reverse.bike_access,
                        (
                          flag_fits t.forward.foot_access,
                          (
                            flag_fits t.reverse.foot_access,
                            (omega (arith, r.forward.car_byte), (omega (arith, r.reverse.car_byte), (omega (arith, r.forward.bike_byte), (omega (arith, r.reverse.bike_byte), (omega (arith, r.forward.foot_byte), (omega (arith, r.reverse.foot_byte), tt)))))),
                          ),
                        ),
                      ),
                    ),
                  ),
                ),
              ),
            ),
          ),
        ),
      ),
    ),
  )

  held : (k : ℕ) → k < 19 → number / 2 ^ bits_before (road_items t) k % 2 ^ (get_or (road_items t) k (0, 0)).0 ≡ (get_or (road_items t) k (0, 0)).1
  held k l = ap (λ (n : ℕ). n / 2 ^ bits_before (road_items t) k % 2 ^ (get_or (road_items t) k (0, 0)).0) e ∙ packed_at (road_items t) 0 k (0, 0) fits l

  pub holds_forward : HoldsAlong number t.forward false
  holds_forward = record {
    road_class = held 0 (omega arith);
    road_class_link = held 1 (omega arith);
    roundabout = held 2 (omega arith);
    surface = held 3 (omega arith);
    toll = held 4 (omega arith);
    lanes = held 5 (omega arith);
    max_speed = held 6 (omega arith);
    car_access = held 7 (omega arith);
    bike_access = held 9 (omega arith);
    foot_access = held 11 (omega arith);
    car_speed = held 13 (omega arith);
    bike_speed = held 15 (omega arith);
    foot_speed = held 17 (omega arith);
  }

  pub holds_reverse : HoldsAlong number t.reverse true
  holds_reverse = record {
    road_class = held 0 (omega arith) ∙ r.alike.road_class;
    road_class_link = held 1 (omega arith) ∙ ap from_bool r.alike.road_class_link;
    roundabout = held 2 (omega arith) ∙ ap from_bool r.alike.roundabout;
    surface = held 3 (omega arith) ∙ r.alike.surface;
    toll = held 4 (omega arith) ∙ r.alike.toll;
    lanes = held 5 (omega arith) ∙ r.alike.lanes;
    max_speed = held 6 (omega arith) ∙ r.alike.max_speed;
    car_access = held 8 (omega arith);
    bike_access = held 10 (omega arith);
    foot_access = held 12 (omega arith);
    car_speed = held 14 (omega arith);
    bike_speed = held 16 (omega arith);
    foot_speed = held 18 (omega arith);
  }
