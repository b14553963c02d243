-- Runs keep the order of numbers, and without a factor above 1 make none greater.
use Rattle.std.proofs.Common.{◌≡◌, ℕ, ◌*◌, ◌/◌, ◌≤◌, min, Bool, true, false, ◌&&◌, cond, List, [], ◌∷◌, Option, Some, None, refl, arith}
use Rattle.std.specs.Prelude.{nat_le, option_map, IsTrue, ◌==◌}
use Rattle.std.proofs.Math.Nat.{mul-le-mul_left, mul-le-mul_right}
use Rattle.std.proofs.lemmas.Bool.Decides.{nat_tests}
use Rattle.encoded_values.specs.Values.{Values}
use Rattle.model_eval.specs.declared.conditions.NumberName.{NumberName}
use Rattle.model_eval.specs.declared.conditions.NumberName.TheVariants.{Lanes, MaxSpeed, CarSpeed, BikeSpeed, FootSpeed}
use Rattle.model_eval.specs.declared.custom_model.Running.{Running}
use Rattle.model_eval.specs.declared.custom_model.Statement.{Statement}
use Rattle.model_eval.specs.declared.custom_model.Action.{Action}
use Rattle.model_eval.specs.declared.custom_model.Action.TheVariants.{Multiply, Limit, MultiplyScaled, LimitScaled}
use Rattle.model_eval.specs.Conditions.{passes}
use Rattle.model_eval.specs.Running.{known, known_if, amount_of, multiplies, changed, act, chosen, act_of, begins, put, blocks, run_blocks, run}
use Rattle.model_eval.specs.Slowing.{greatest, AreStored, factor_of, is_at_most_one, is_slowing, are_slowing}

changed_keeps : (is_factor : Bool) (amount : Option ℕ) (x y : ℕ) → x ≤ y → changed is_factor amount x ≤ changed is_factor amount y
changed_keeps is_factor None x y le = le
changed_keeps true (Some c) x y le = let m : x * c ≤ y * c = mul-le-mul_right c le in omega arith
changed_keeps false (Some l) x y le = omega arith

act_of_keeps : (running : Running) (a : Option Action) (values : Values) (x y : ℕ) → x ≤ y → act_of running a values x ≤ act_of running a values y
act_of_keeps running None values x y le = le
act_of_keeps running (Some a) values x y le = changed_keeps (multiplies a) (amount_of running a values) x y le

blocks_keep : (running : Running) (bs : List (List Statement)) (values : Values) (areas x y : ℕ) → x ≤ y → run_blocks running bs values areas x ≤ run_blocks running bs values areas y
blocks_keep running [] values areas x y le = le
blocks_keep running (b ∷ bs) values areas x y le =
    blocks_keep running bs values areas (act_of running (chosen values areas b) values x) (act_of running (chosen values areas b) values y)
    (act_of_keeps running (chosen values areas b) values x y le)

pub run_keeps : (running : Running) (ss : List Statement) (values : Values) (areas x y : ℕ) → x ≤ y → run running ss values areas x ≤ run running ss values areas y
unfolding run
run_keeps running ss values areas x y le = blocks_keep running (blocks ss).1 values areas x y le

abbrev Slow : List Statement → Type 0
Slow [] = Unit {0}
Slow (s ∷ ss) = IsTrue (is_slowing s) × Slow ss

abbrev AllSlow : List (List Statement) → Type 0
AllSlow [] = Unit {0}
AllSlow (b ∷ bs) = Slow b × AllSlow bs

put_slow : (is : Bool) (s : Statement) (b : List Statement × List (List Statement)) → IsTrue (is_slowing s) → Slow b.0 × AllSlow b.1 → Slow (put is s b).0 × AllSlow (put is s b).1
put_slow true s b legal slow = (tt, ((legal, slow.0), slow.1))
put_slow false s b legal slow = ((legal, slow.0), slow.1)

both : (a b : Bool) → (a && b) ≡ true → (a ≡ true) × (b ≡ true)
both true b e = (refl, e)
both false b e = cc

blocks_slow : (ss : List Statement) → IsTrue (are_slowing ss) → Slow (blocks ss).0 × AllSlow (blocks ss).1
blocks_slow [] e = (tt, tt)
blocks_slow (s ∷ ss) e =
    let p = both (is_slowing s) (are_slowing ss) e in
    put_slow (begins s.branch) s (blocks ss) p.0 (blocks_slow ss p.1)

within : (c : ℕ) → nat_le c 1000000 ≡ true → c ≤ 1000000
within c e = grind (arith, nat_tests)

factor_slows : (c x : ℕ) → c ≤ 1000000 → min (x * c / 1000000) 1000000000 ≤ x
factor_slows c x le = let m : x * c ≤ x * 1000000 = mul-le-mul_left x le in omega arith

scaled_slows : (number most by x : ℕ) → number ≤ most → most * by ≤ 1000000 → min (x * (number * by) / 1000000) 1000000000 ≤ x
scaled_slows number most by x low within_one = let m : number * by ≤ most * by = mul-le-mul_right by low in factor_slows (number * by) x (omega arith)

max_speed_slows : (missing : Bool) (n by x : ℕ) → (missing ≡ false → n ≤ 254) → 254 * by ≤ 1000000 → changed true (option_map (λ k. k * by) (known_if missing n)) x ≤ x
max_speed_slows true n by x low e = omega arith
max_speed_slows false n by x low e = scaled_slows n 254 by x (low refl) e

not_missing : (n : ℕ) → n ≤ 255 → (n == 255) ≡ false → n ≤ 254
not_missing n le e = grind (arith, nat_tests)

number_slows : (name : NumberName) (values : Values) (by x : ℕ) → AreStored values → greatest name * by ≤ 1000000 → changed true (option_map (λ k. k * by) (known name values)) x ≤ x
number_slows Lanes values by x h e = scaled_slows values.lanes 7 by x h.lanes e
number_slows MaxSpeed values by x h e = max_speed_slows (values.max_speed == 255) values.max_speed by x (not_missing values.max_speed h.max_speed) e
number_slows CarSpeed values by x h e = scaled_slows values.car_speed 255 by x h.car e
number_slows BikeSpeed values by x h e = scaled_slows values.bike_speed 255 by x h.bike e
number_slows FootSpeed values by x h e = scaled_slows values.foot_speed 255 by x h.foot e

limit_slows : (limit : Option ℕ) (x : ℕ) → changed false limit x ≤ x
limit_slows None x = omega arith
limit_slows (Some l) x = omega arith

act_slows : (running : Running) (a : Action) (values : Values) (x : ℕ) → AreStored values → IsTrue (is_at_most_one (factor_of a)) → act running a values x ≤ x
act_slows running (Multiply c) values x h e = factor_slows c x (within c e)
act_slows running (Limit l) values x h e = omega arith
act_slows running (MultiplyScaled name by) values x h e = number_slows name values by x h (within (greatest name * by) e)
act_slows running (LimitScaled name by) values x h e = limit_slows (amount_of running (LimitScaled name by) values) x

-- the first that is true, by how its test comes out
one_slows : (running : Running) (is : Bool) (a : Action) (later : Option Action) (values : Values) (x : ℕ) → AreStored values → IsTrue (is_at_most_one (factor_of a)) → act_of running later values x ≤ x → act_of running (cond is (Some a) later) values x ≤ x
one_slows running true a later values x h e le = act_slows running a values x h e
one_slows running false a later values x h e le = le

chosen_slows : (running : Running) (b : List Statement) (values : Values) (areas x : ℕ) → AreStored values → Slow b → act_of running (chosen values areas b) values x ≤ x
chosen_slows running [] values areas x h slow = omega arith
chosen_slows running (s ∷ b) values areas x h slow =
    one_slows running (passes values areas s.test) s.action (chosen values areas b) values x h slow.0 (chosen_slows running b values areas x h slow.1)

blocks_slow_down : (running : Running) (bs : List (List Statement)) (values : Values) (areas x : ℕ) → AreStored values → AllSlow bs → run_blocks running bs values areas x ≤ x
blocks_slow_down running [] values areas x h slow = omega arith
blocks_slow_down running (b ∷ bs) values areas x h slow =
    let here = chosen_slows running b values areas x h slow.0 in
    let later = blocks_slow_down running bs values areas (act_of running (chosen values areas b) values x) h slow.1 in
    omega arith

pub run_slows : (running : Running) (ss : List Statement) (values : Values) (areas x : ℕ) → IsTrue (are_slowing ss) → AreStored values → run running ss values areas x ≤ x
unfolding run
run_slows running ss values areas x e h = blocks_slow_down running (blocks ss).1 values areas x h (blocks_slow ss e).1
