-- What statements make of a running number (GraphHopper documentation, "Custom models"): they stand in blocks, an `if`
-- and what follows it up to the next, and of each block the first true statement acts. Rounding is this project's own.
use Rattle.std.specs.Prelude.{ℕ, ◌*◌, ◌/◌, ◌==◌, min, Bool, true, false, List, [], ◌∷◌, Option, Some, None, option_map, if◌then◌else◌}
use Rattle.encoded_values.specs.Values.{Values}
use Rattle.model_eval.specs.declared.conditions.NumberName.{NumberName}
use Rattle.model_eval.specs.declared.conditions.NumberName.TheVariants.{Lanes, MaxSpeed, CarSpeed, BikeSpeed, FootSpeed}
use Rattle.model_eval.specs.declared.custom_model.Running.{Running}
use Rattle.model_eval.specs.declared.custom_model.Running.TheVariants.{Speed, Priority}
use Rattle.model_eval.specs.declared.custom_model.Branch.{Branch}
use Rattle.model_eval.specs.declared.custom_model.Branch.TheVariants.{If, ElseIf, Else}
use Rattle.model_eval.specs.declared.custom_model.Action.{Action}
use Rattle.model_eval.specs.declared.custom_model.Action.TheVariants.{Multiply, Limit, MultiplyScaled, LimitScaled}
use Rattle.model_eval.specs.declared.custom_model.Statement.{Statement}
use Rattle.model_eval.specs.Conditions.{passes}

-- a stored number that is known: a maximum speed of 255 is missing
abbrev pub known_if : Bool → ℕ → Option ℕ
known_if missing number = if missing then None else Some number

abbrev pub known : NumberName → Values → Option ℕ
known Lanes values = Some values.lanes
known MaxSpeed values = known_if (values.max_speed == 255) values.max_speed
known CarSpeed values = Some values.car_speed
known BikeSpeed values = Some values.bike_speed
known FootSpeed values = Some values.foot_speed

-- millionths as a limit: of a speed in milli-km/h, rounded down, and of a priority as they are
abbrev pub as_limit : Running → ℕ → ℕ
as_limit Speed c = c / 1000
as_limit Priority c = c

-- how much an action multiplies by, or what it limits to; none where its number is missing
abbrev pub amount_of : Running → Action → Values → Option ℕ
amount_of running (Multiply c) values = Some c
amount_of running (Limit l) values = Some l
amount_of running (MultiplyScaled name by) values = option_map (λ n. n * by) (known name values)
amount_of running (LimitScaled name by) values = option_map (λ n. as_limit running (n * by)) (known name values)

abbrev pub multiplies : Action → Bool
multiplies (Multiply c) = true
multiplies (Limit l) = false
multiplies (MultiplyScaled name by) = true
multiplies (LimitScaled name by) = false

-- a number times so many millionths, rounded down, and at most 10^9; or at most so much; or as it was
abbrev pub changed : Bool → Option ℕ → ℕ → ℕ
changed is_factor None x = x
changed true (Some c) x = min (x * c / 1000000) 1000000000
changed false (Some l) x = min x l

abbrev pub act : Running → Action → Values → ℕ → ℕ
act running action values x = changed (multiplies action) (amount_of running action values) x

-- the action of the first true statement
abbrev pub chosen : Values → ℕ → List Statement → Option Action
chosen values areas [] = None
chosen values areas (s ∷ ss) = if passes values areas s.test then Some s.action else chosen values areas ss

abbrev pub act_of : Running → Option Action → Values → ℕ → ℕ
act_of running None values x = x
act_of running (Some action) values x = act running action values x

abbrev pub begins : Branch → Bool
begins If = true
begins ElseIf = false
begins Else = false

-- a statement before others: what stands before the first `if`, and the blocks from there on
abbrev pub put : Bool → Statement → (List Statement × List (List Statement)) → (List Statement × List (List Statement))
put true s others = ([], (s ∷ others.0) ∷ others.1)
put false s others = (s ∷ others.0, others.1)

abbrev pub blocks : List Statement → (List Statement × List (List Statement))
blocks [] = ([], [])
blocks (s ∷ ss) = put (begins s.branch) s (blocks ss)

-- block by block, each on what the one before it left
abbrev pub run_blocks : Running → List (List Statement) → Values → ℕ → ℕ → ℕ
run_blocks running [] values areas x = x
run_blocks running (b ∷ bs) values areas x = run_blocks running bs values areas (act_of running (chosen values areas b) values x)

-- what a list of statements makes of a running number
unfoldable pub run : Running → List Statement → Values → ℕ → ℕ → ℕ
run running ss values areas x = run_blocks running (blocks ss).1 values areas x
