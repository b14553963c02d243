-- Cars may pass each edge of the roads of a size, in both directions, at any limit that its script leaves.
use Rattle.std.specs.Ordering.{int_eq}
use Rattle.std.proofs.Common.{◌≡◌, ℕ, ℤ, ◌*◌, ◌%◌, ◌<◌, ◌≤◌, Bool, true, false, cond, List, [], ◌∷◌, length, map, take, Option, None, Some, Ok, All, refl, sym, ap, subst, inl, inr, arith}
use Rattle.std.specs.Prelude.{◌==◌, codes}
use Rattle.std.specs.List.{AllByRecursion, IsDistinct, cons_option, flat_map, range_with_len}
use Rattle.std.specs.Option.{option_map}
use Rattle.gh_base.specs.declared.edges.DirEdge.{DirEdge}
use Rattle.gh_base.specs.declared.map.OsmWay.{OsmWay}
use Rattle.gh_base.specs.declared.map.Point.{Point}
use Rattle.encoded_values.specs.Values.{TwoValues}
use Rattle.tag_rules.specs.Values.{values_by}
use Rattle.base_graph.specs.Facts.{edge_is}
use Rattle.base_graph.specs.Graphs.{Edge, Graph, directed, edge_at, no_edge}
use Rattle.landmark_choice.specs.Parts.{IsBarred}
use Rattle.map_import.specs.Building.{laid_as}
use Rattle.map_import.specs.Refusals.{first_twice, lay_all, nothing, roads}
use Rattle.map_import.specs.Roads.{Piece, UsedWay, cut, edge_of, ends_of, is_tower, piece_of, pieces_in, pieces_of_way, place_in, used_of, used_ways, with_values}
use Rattle.map_import.proofs.Sayings as says
use Rattle.weighting.specs.declared.profile.Profile.{Profile}
use Rattle.weighting.specs.Rules.{Rule}
use Rattle.weighting.specs.Roads.{hop_out, network_by}
use Rattle.weighting.specs.Weights.{values_at}
use Rattle.weighting.proofs.Turned.{contains_map}
use Rattle.traffic_core.specs.declared.entry.Entry.{Entry}
use Rattle.traffic_core.specs.History.{limit_after}
use Rattle.weighting.specs.Profiles.{profile_at}
use Rattle.traffic_core.specs.Lands.{Land, rule_alone}
use Rattle.traffic_core.specs.Truth.{IsNoPrepAt}
use Rattle.generated_run.specs.Draws.{draw}
use Rattle.generated_run.specs.Generating.{AreRoadsOfSize}
use Rattle.generated_run.specs.Maps.{map_of, way_at}
use Rattle.summary_laws.proofs.LimitsOfTen.{IsMild, limit_cases}
use Rattle.summary_laws.proofs.OpenRoads.{car_rule, has_weight}
use Rattle.summary_laws.proofs.SameRoads.{edge_stands}
use Rattle.summary_laws.proofs.Towers.{distinct_fold, each_at, each_flat, each_map, each_range, none_distinct, unless_laid}

-- cars have a speed in both directions
abbrev pub IsFast : TwoValues → Type 0
IsFast values = (0 < values.forward.car_speed) × (0 < values.reverse.car_speed)

abbrev IfFast : Option TwoValues → Type 0
IfFast None = Unit {0}
IfFast (Some values) = IsFast values

class_fast : (a b c : Bool) → IfFast (values_by (record { key = codes "highway"; value = cond a (codes "primary") (cond b (codes "secondary") (cond c (codes "tertiary") (codes "residential"))) } ∷ []))
class_fast true b c = (omega arith, omega arith)
class_fast false true c = (omega arith, omega arith)
class_fast false false true = (omega arith, omega arith)
class_fast false false false = (omega arith, omega arith)

used_if : (way : OsmWay) (used : UsedWay) (b : Bool) (o : Option TwoValues) → cond b (option_map (with_values way) o) None ≡ Some used → IfFast o → IsFast used.values
used_if way used true (Some values) is fast = let same : with_values way values ≡ used = cc in subst (λ (u : UsedWay). IsFast u.values) same fast
used_if way used true None is fast = absurd cc
used_if way used false o is fast = absurd cc

fast_used : (way : OsmWay) (used : UsedWay) → used_of way ≡ Some used → IfFast (values_by way.tags) → IsFast used.values
unfolding used_of
fast_used way used is fast = used_if way used _ (values_by way.tags) is fast

cons_fast : (o : Option UsedWay) (rest : List UsedWay) → ((used : UsedWay) → o ≡ Some used → IsFast used.values) → AllByRecursion (λ (u : UsedWay). IsFast u.values) rest → AllByRecursion (λ (u : UsedWay). IsFast u.values) (cons_option o rest)
cons_fast None rest here later = later
cons_fast (Some used) rest here later = (here used refl, later)

fast_ways : (ways : List OsmWay) → AllByRecursion (λ (way : OsmWay). IfFast (values_by way.tags)) ways → AllByRecursion (λ (u : UsedWay). IsFast u.values) (used_ways ways)
fast_ways [] each = tt
fast_ways (way ∷ ways) each = cons_fast (used_of way) (used_ways ways) (λ used is. fast_used way used is each.0) (fast_ways ways each.1)

each_same : {X : Type 0} (Q : Type 0) (xs : List X) → Q → AllByRecursion (λ (x : X). Q) xs
each_same Q [] q = tt
each_same Q (x ∷ xs) q = (q, each_same Q xs q)

fast_pieces : (tower : ℤ → Bool) (ways : List UsedWay) → AllByRecursion (λ (u : UsedWay). IsFast u.values) ways → AllByRecursion (λ (way : UsedWay). AllByRecursion (λ (p : Piece). IsFast p.values) (pieces_of_way tower way)) ways
fast_pieces tower [] each = tt
fast_pieces tower (way ∷ ways) each =
    (each_map (λ (p : Piece). IsFast p.values) (piece_of way) (cut tower way.refs) (each_same (IsFast way.values) (cut tower way.refs) each.0), fast_pieces tower ways each.1)

-- how the roads of a size are laid
pub laid_out : (size : ℕ) (land : Land) → AreRoadsOfSize size land → lay_all (place_in (map_of size).nodes) nothing (pieces_in (map_of size)) ≡ Ok (laid_as land.ids land.graph)
unfolding roads
laid_out size land are =
    unless_laid _ _ (laid_as land.ids land.graph) (unless_laid (first_twice (map_of size).nodes) _ (laid_as land.ids land.graph) are.roads.laid)

-- each tower has an id of its own
pub ids_distinct : (size : ℕ) (land : Land) → AreRoadsOfSize size land → IsDistinct int_eq land.ids
ids_distinct size land are =
    let is = says.ids (place_in (map_of size).nodes) (pieces_in (map_of size)) (laid_as land.ids land.graph) (laid_out size land are) in
    subst (λ (ids : List ℤ). IsDistinct int_eq ids) (sym is) (distinct_fold (flat_map ends_of (pieces_in (map_of size))) [] none_distinct)

ways_fast : (size : ℕ) → AllByRecursion (λ (way : OsmWay). IfFast (values_by way.tags)) (map (way_at size) (range_with_len 0 (2 * size)))
ways_fast size = each_range (λ (way : OsmWay). IfFast (values_by way.tags)) (way_at size) 0 (2 * size)
    (λ n low below. class_fast (draw size n % 4 == 0) (draw size n % 4 == 1) (draw size n % 4 == 2))

pieces_fast : (size : ℕ) → AllByRecursion (λ (p : Piece). IsFast p.values) (pieces_in (map_of size))
unfolding map_of
pieces_fast size =
    let ways = map (way_at size) (range_with_len 0 (2 * size)) in
    each_flat (λ (p : Piece). IsFast p.values) (pieces_of_way (is_tower (used_ways ways))) (used_ways ways) (fast_pieces (is_tower (used_ways ways)) (used_ways ways) (fast_ways ways (ways_fast size)))

edges_fast : (place : ℤ → Option Point) (ids : List ℤ) (pieces : List Piece) → AllByRecursion (λ (p : Piece). IsFast p.values) pieces → AllByRecursion (λ (e : Edge). IsFast e.values) (map (edge_of place ids) pieces)
unfolding edge_of
edges_fast place ids [] each = tt
edges_fast place ids (piece ∷ pieces) each = (each.0, edges_fast place ids pieces each.1)

pub fast_edge : (size : ℕ) (land : Land) → AreRoadsOfSize size land → (edge : ℕ) → edge < length land.graph.edges → IsFast (edge_at land.graph.edges edge).values
fast_edge size land are edge there =
    let is = says.edges (place_in (map_of size).nodes) (pieces_in (map_of size)) (laid_as land.ids land.graph) (laid_out size land are) in
    each_at (λ (e : Edge). IsFast e.values) land.graph.edges edge no_edge
    (subst (λ (l : List Edge). AllByRecursion (λ (e : Edge). IsFast e.values) l) (sym is) (edges_fast (place_in (map_of size).nodes) land.ids (pieces_in (map_of size)) (pieces_fast size))) there

along_fast : (graph : Graph) (edge : ℕ) (reverse : Bool) → IsFast (edge_at graph.edges edge).values → 0 < (values_at graph (directed edge reverse)).car_speed
along_fast graph edge true fast = fast.1
along_fast graph edge false fast = fast.0

pub fast_along : (size : ℕ) (land : Land) → AreRoadsOfSize size land → (by : DirEdge) → by.edge.0 < length land.graph.edges → 0 < (values_at land.graph by).car_speed
fast_along size land are by there = along_fast land.graph by.edge.0 by.reverse (fast_edge size land are by.edge.0 there)

-- limits stay at 1 km/h at least
pub some_limit : (graph : Graph) (journal : List Entry) (by : DirEdge) → All (IsMild by) journal → 0 < (values_at graph by).car_speed → (count : ℕ) → 1000 ≤ limit_after graph (take count journal) by
some_limit graph journal by mild fast count = elim (limit_cases graph journal by mild count) [
  | inl old ↦ let is = old.is in omega arith
  | inr ten ↦ let is = ten.is in omega arith
]

pub rule_is_cars : (size : ℕ) (land : Land) → AreRoadsOfSize size land → rule_alone (profile_at land.profiles 0) ≡ car_rule
rule_is_cars size land are = ap (λ (ps : List Profile). rule_alone (profile_at ps 0)) are.profiles_are

-- so there is something to prepare
pub some_open : (size : ℕ) (land : Land) (journal : List Entry) → AreRoadsOfSize size land → 0 < length land.graph.edges → ((by : DirEdge) → All (IsMild by) journal) → (count : ℕ) → IsNoPrepAt land (take count journal) 0 → ⊥
some_open size land journal are some mild count barred =
    let graph = land.graph in
    let by : DirEdge = directed 0 false in
    let edge = edge_at graph.edges 0 in
    let base = edge.base.0 in
    let within = (edge_is graph 0 are.roads.graph some).base in
    let limits : DirEdge → ℕ = limit_after graph (take count journal) in
    let fast = fast_along size land are by some in
    let here = contains_map (hop_out car_rule limits graph) _ by (edge_stands graph are.roads.graph 0 false some) in
    let no_hop = subst (λ (rule : Rule). IsBarred (network_by rule limits graph) base) (rule_is_cars size land are) (barred base within) in
    no_hop (hop_out car_rule limits graph by) here (has_weight graph by (limits by) edge.mm fast (let limit = some_limit graph journal by (mild by) fast count in omega arith))
