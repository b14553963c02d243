-- Under the rule of cars alone a directed edge has a weight, above 0 where it is long, wherever cars may pass and its limit is above 0.
use Rattle.std.proofs.Common.{◌≡◌, ℕ, ◌+◌, ◌*◌, ◌<◌, ◌≤◌, false, [], Option, Some, None, IsSome, refl, subst, inl, inr, arith}
use Rattle.std.specs.Prelude.{◌==◌, unwrap_or}
use Rattle.std.specs.Int.{div_ceil}
use Rattle.std.proofs.lemmas.Bool.{cases_lt}
use Rattle.std.proofs.lemmas.Bool.Decides.{nat_tests}
use Rattle.std.proofs.lemmas.Grind.{div_ceil_times}
use Rattle.gh_base.specs.declared.edges.DirEdge.{DirEdge}
use Rattle.gh_base.specs.declared.query.Vehicle.TheVariants.{Car}
use Rattle.base_graph.specs.Graphs.{Graph}
use Rattle.model_eval.specs.declared.custom_model.CustomModel.{CustomModel}
use Rattle.weighting.specs.Rules.{Rule}
use Rattle.weighting.specs.Weights.{distance_share, first_speed, time_at, values_at, weight_by, weight_if}
use Rattle.model_eval.specs.Running.{run}

abbrev pub no_model : CustomModel
no_model = record { speed = []; priority = []; distance_influence = None; areas = [] }

-- the rule of cars whose model has no statement
abbrev pub car_rule : Rule
car_rule = record { vehicle = Car; profile = no_model; query = None }

not_zero : (n : ℕ) → 0 < n → (n == 0) ≡ false
not_zero n some = grind (arith, nat_tests)

plain_weight : (graph : Graph) (by : DirEdge) (limit mm : ℕ) → 0 < first_speed car_rule graph by limit →
    Some (time_at (first_speed car_rule graph by limit) 1000000 mm + distance_share 0 mm) ≡ weight_by car_rule graph by limit mm
unfolding weight_by weight_if run
plain_weight graph by limit mm some = rw (not_zero (first_speed car_rule graph by limit) some) refl

some_here : (o : Option ℕ) (x : ℕ) → Some x ≡ o → IsSome o
some_here (Some y) x is = refl
some_here None x is = absurd cc

value_here : (o : Option ℕ) (x : ℕ) → Some x ≡ o → unwrap_or o 0 ≡ x
value_here (Some y) x is = cc
value_here None x is = absurd cc

some_start : (graph : Graph) (by : DirEdge) (limit : ℕ) → 0 < (values_at graph by).car_speed → 0 < limit → 0 < first_speed car_rule graph by limit
some_start graph by limit fast some = omega arith

pub has_weight : (graph : Graph) (by : DirEdge) (limit mm : ℕ) → 0 < (values_at graph by).car_speed → 0 < limit → IsSome (weight_by car_rule graph by limit mm)
has_weight graph by limit mm fast some = some_here (weight_by car_rule graph by limit mm) _ (plain_weight graph by limit mm (some_start graph by limit fast some))

ceil_some : (n d : ℕ) → 0 < n → 0 < d → 0 < div_ceil n d
ceil_some n d some by = let t = div_ceil_times n d by in elim (cases_lt 0 (div_ceil n d)) [
  | inl more ↦ more
  | inr none ↦ let zero : div_ceil n d ≡ 0 = omega arith in absurd (let low : n ≤ div_ceil n d * d = t.0 in let no : n ≤ 0 * d = subst (λ q. n ≤ q * d) zero low in omega arith)
]

time_some : (speed mm : ℕ) → 0 < speed → 0 < mm → 0 < time_at speed 1000000 mm
unfolding time_at
time_some speed mm some long = ceil_some (3600 * mm * 1000000) (speed * 1000000) (omega arith) (omega arith)

pub weighs_some : (graph : Graph) (by : DirEdge) (limit mm : ℕ) → 0 < (values_at graph by).car_speed → 0 < limit → 0 < mm → 0 < unwrap_or (weight_by car_rule graph by limit mm) 0
weighs_some graph by limit mm fast some long =
    let start = some_start graph by limit fast some in
    let is = value_here (weight_by car_rule graph by limit mm) _ (plain_weight graph by limit mm start) in
    let time = time_some (first_speed car_rule graph by limit) mm start long in
    omega (arith, is, time)
