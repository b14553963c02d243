-- The weight of a directed edge, or of a piece of it, in ms (GraphHopper documentation, "Custom models": the time at the
-- speed, divided by the priority, and the influence of the distance). Rounding, and that a query's statements come after
-- the profile's, is this project's own.
use Rattle.std.specs.Prelude.{ℕ, ◌+◌, ◌*◌, ◌^◌, ◌<◌, ◌==◌, ◌||◌, min, if◌then◌else◌, List, Option, Some, None, unwrap_or, IfSome}
use Rattle.std.specs.Int.{div_ceil}
use Rattle.std.specs.Option.{option_or}
use Rattle.gh_base.specs.declared.edges.DirEdge.{DirEdge}
use Rattle.encoded_values.specs.Values.{Values, speed_of}
use Rattle.base_graph.specs.Graphs.{Graph, edge_at, values_along, points_of}
use Rattle.model_eval.specs.declared.custom_model.Running.{Running}
use Rattle.model_eval.specs.declared.custom_model.Running.TheVariants.{Speed, Priority}
use Rattle.model_eval.specs.declared.custom_model.Statement.{Statement}
use Rattle.model_eval.specs.declared.custom_model.CustomModel.{CustomModel}
use Rattle.model_eval.specs.Regions.{areas_at}
use Rattle.model_eval.specs.Running.{run}
use Rattle.weighting.specs.Rules.{Rule}

-- what is stored of an edge in the direction of travel
abbrev pub values_at : Graph → DirEdge → Values
values_at graph edge = values_along (edge_at graph.edges edge.edge.0) edge.reverse

-- the areas of a model in which the edge lies
abbrev pub areas_in : CustomModel → Graph → DirEdge → ℕ
areas_in model graph edge = areas_at model.areas (points_of graph edge.edge.0)

-- the list of a model for a running number
abbrev pub list_of : Running → CustomModel → List Statement
list_of Speed model = model.speed
list_of Priority model = model.priority

-- what a model makes of a running number: its conditions see stored values and its own areas, and never a limit
abbrev pub run_of : Running → CustomModel → Graph → DirEdge → ℕ → ℕ
run_of running model graph edge x = run running (list_of running model) (values_at graph edge) (areas_in model graph edge) x

-- a query without a model changes nothing
abbrev pub run_if : Running → Option CustomModel → Graph → DirEdge → ℕ → ℕ
run_if running None graph edge x = x
run_if running (Some model) graph edge x = run_of running model graph edge x

-- the profile's model runs first, and then the query's
abbrev pub run_by : Running → Rule → Graph → DirEdge → ℕ → ℕ
run_by running rule graph edge x = run_if running rule.query graph edge (run_of running rule.profile graph edge x)

-- the speed to start from, in milli-km/h: the vehicle's base speed, or the limit where that is lower
abbrev pub first_speed : Rule → Graph → DirEdge → ℕ → ℕ
first_speed rule graph edge limit = min (1000 * speed_of rule.vehicle (values_at graph edge)) limit

-- the priority to start from, in millionths
abbrev pub first_priority : ℕ
first_priority = 1000000

abbrev pub influence_in : Option CustomModel → Option ℕ
influence_in None = None
influence_in (Some model) = model.distance_influence

-- the influence of distance, in s/km: the query's, or the profile's where the query has none, or 0
abbrev pub influence_by : Rule → ℕ
influence_by rule = unwrap_or (option_or (influence_in rule.query) rule.profile.distance_influence) 0

-- the ms of so many mm at a speed, divided by the priority, rounded up
unfoldable pub time_at : ℕ → ℕ → ℕ → ℕ
time_at speed priority mm = div_ceil (3600 * mm * 1000000) (speed * priority)

-- the ms of so many mm at an influence of distance, rounded up
unfoldable pub distance_share : ℕ → ℕ → ℕ
distance_share influence mm = div_ceil (mm * influence) 1000

-- a weight, unless the vehicle may not start, or the speed or the priority comes to 0
unfoldable pub weight_if : ℕ → ℕ → ℕ → ℕ → ℕ → Option ℕ
weight_if start speed priority influence mm =
    if start == 0 || speed == 0 || priority == 0 then None
    else Some (time_at speed priority mm + distance_share influence mm)

-- the weight of so many mm of a directed edge under a limit
unfoldable pub weight_by : Rule → Graph → DirEdge → ℕ → ℕ → Option ℕ
weight_by rule graph edge limit mm =
    let start = first_speed rule graph edge limit in
    weight_if start (run_by Speed rule graph edge start) (run_by Priority rule graph edge first_priority) (influence_by rule) mm

-- of less than 2^32 mm, at an influence below 2^32 s/km, a weight is below 2^64
abbrev pub WeightsFit : Type 0
WeightsFit = (rule : Rule) (graph : Graph) (edge : DirEdge) (limit mm : ℕ) → mm < 2 ^ 32 → influence_by rule < 2 ^ 32 →
    IfSome (weight_by rule graph edge limit mm) (λ weight. weight < 2 ^ 64)
