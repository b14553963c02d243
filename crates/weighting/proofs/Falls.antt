-- Why no weight falls under a query that only slows: a run keeps the order of numbers, and a slow one makes none greater.
use Rattle.std.proofs.Common.{◌≡◌, ℕ, ◌+◌, ◌*◌, ◌<◌, ◌≤◌, ◌^◌, Bool, true, false, cond, ◌||◌, Option, Some, None, IsSome, Contains, length, refl, sym, ◌∙◌, inl, inr, arith}
use Rattle.std.specs.Prelude.{◌==◌, IfSome, IsTrue, nat_lt, unwrap_or}
use Rattle.std.specs.Int.{div_ceil}
use Rattle.std.specs.Option.{option_or}
use Rattle.std.proofs.Math.Nat.{mul-le-mul, mul-le-mul_left, mul-pos}
use Rattle.std.proofs.lemmas.Bool.{cases_Bool, or_cases, eq-eqb, eqb-true, ltb-false}
use Rattle.std.proofs.lemmas.Bool.Decides.{nat_tests}
use Rattle.std.proofs.lemmas.Grind.{div_ceil_times}
use Rattle.gh_base.specs.declared.edges.DirEdge.{DirEdge}
use Rattle.gh_base.specs.declared.edges.Hop.{Hop}
use Rattle.base_graph.specs.Graphs.{Graph, edge_at, around_of}
use Rattle.base_graph.specs.Starting.{around_edge}
use Rattle.walk_rules.specs.Walks.{hops_from, cost}
use Rattle.model_eval.specs.declared.custom_model.Running.{Running}
use Rattle.model_eval.specs.declared.custom_model.Running.TheVariants.{Speed, Priority}
use Rattle.model_eval.specs.declared.custom_model.CustomModel.{CustomModel}
use Rattle.gh_base.specs.declared.kinds.Part.TheVariants as part
use Rattle.model_eval.specs.Slowing.{AreStored, IsSlow, are_slowing, low_influence, Offence, first_of, offender_among, offender}
use Rattle.model_eval.proofs.Order.{run_keeps, run_slows}
use Rattle.weighting.specs.declared.weight_view.Side.{Side}
use Rattle.weighting.specs.declared.weight_view.Side.TheVariants.{Out, Back}
use Rattle.weighting.specs.Rules.{Rule, alone}
use Rattle.weighting.specs.Weights.{values_at, areas_in, list_of, run_of, run_if, run_by, first_speed, first_priority, influence_by, time_at, distance_share, weight_if, weight_by, WeightsFit}
use Rattle.weighting.specs.Roads.{hop_of, network_of, opposite}
use Rattle.weighting.specs.RoadFacts.{each_hop, hop_to}
use Rattle.weighting.proofs.Quotients.{least_quotient, quotient_within}
use Rattle.weighting.proofs.Stored.{values_are_stored}
use Rattle.weighting.specs.SlowRoads.{OnlySlows, IsSlowing, IsNoneOrAtLeast, HasStored, AreNowhereAbove, NoWeightFalls, NoHopIsFaster}
use Rattle.weighting.proofs.Turned.{contains_map}

-- of a greater divisor the quotient is no greater
quotient_falls : (n a b : ℕ) → 0 < a → a ≤ b → div_ceil n b ≤ div_ceil n a
quotient_falls n a b some le =
    let upper : n ≤ div_ceil n a * a = (div_ceil_times n a some).0 in
    let more : div_ceil n a * a ≤ div_ceil n a * b = mul-le-mul_left (div_ceil n a) le in
    let lower : div_ceil n b * b < n + b = (div_ceil_times n b (omega arith)).1 in
    least_quotient n b (div_ceil n a) (div_ceil n b) (omega arith) lower

-- of a greater number the quotient is no less
quotient_rises : (m n a : ℕ) → 0 < a → m ≤ n → div_ceil m a ≤ div_ceil n a
quotient_rises m n a some le =
    let upper : n ≤ div_ceil n a * a = (div_ceil_times n a some).0 in
    let lower : div_ceil m a * a < m + a = (div_ceil_times m a some).1 in
    least_quotient m a (div_ceil n a) (div_ceil m a) (omega arith) lower

time_falls : (speed priority speed2 priority2 mm : ℕ) → 0 < speed → 0 < priority → speed ≤ speed2 → priority ≤ priority2 → time_at speed2 priority2 mm ≤ time_at speed priority mm
unfolding time_at
time_falls speed priority speed2 priority2 mm s p ls lp =
    quotient_falls (3600 * mm * 1000000) (speed * priority) (speed2 * priority2) (mul-pos s p) (mul-le-mul ls lp)

share_rises : (influence2 influence mm : ℕ) → influence2 ≤ influence → distance_share influence2 mm ≤ distance_share influence mm
unfolding distance_share
share_rises influence2 influence mm le = quotient_rises (mm * influence2) (mm * influence) 1000 (omega arith) (mul-le-mul_left mm le)

or_left : (x y : Bool) → x ≡ true → (x || y) ≡ true
or_left x y e = rw e refl

or_right : (x y : Bool) → y ≡ true → (x || y) ≡ true
or_right true y e = refl
or_right false y e = e

or_false : (x y : Bool) → (x || y) ≡ false → (x ≡ false) × (y ≡ false)
or_false true y e = absurd cc
or_false false y e = (refl, e)

zero_below : (a b : ℕ) → a ≤ b → (b == 0) ≡ true → (a == 0) ≡ true
zero_below a b le t = let e : b ≡ 0 = eqb-true b 0 t in eq-eqb a 0 (omega arith)

positive : (n : ℕ) → (n == 0) ≡ false → 0 < n
positive n f = grind (arith, nat_tests)

-- where one of the greater numbers is 0 so is one of the lesser
zero_stays : (a b c a2 b2 c2 : ℕ) → a ≤ a2 → b ≤ b2 → c ≤ c2 → (a2 == 0 || b2 == 0 || c2 == 0) ≡ true → (a == 0 || b == 0 || c == 0) ≡ true
zero_stays a b c a2 b2 c2 la lb lc h = elim (or_cases (a2 == 0 || b2 == 0) (c2 == 0) h) [
  | inl t ↦ or_left (a == 0 || b == 0) (c == 0) (elim (or_cases (a2 == 0) (b2 == 0) t) [
    | inl u ↦ or_left (a == 0) (b == 0) (zero_below a a2 la u)
    | inr u ↦ or_right (a == 0) (b == 0) (zero_below b b2 lb u)
  ])
  | inr t ↦ or_right (a == 0 || b == 0) (c == 0) (zero_below c c2 lc t)
]

none_is_zero : (a b c : ℕ) → (a == 0 || b == 0 || c == 0) ≡ false → (0 < b) × (0 < c)
none_is_zero a b c h =
    let p = or_false (a == 0 || b == 0) (c == 0) h in
    let q = or_false (a == 0) (b == 0) p.0 in
    (positive b q.1, positive c p.1)

by_tests : (a b : Bool) (x y : ℕ) → (b ≡ true → a ≡ true) → (a ≡ false → y ≤ x) → IsNoneOrAtLeast (cond a None (Some x)) (cond b None (Some y))
by_tests true b x y h le = tt
by_tests false true x y h le = absurd (let e : false ≡ true = h refl in cc)
by_tests false false x y h le = (y, refl, le refl)

weight_falls : (start speed priority influence start2 speed2 priority2 influence2 mm : ℕ) → start ≤ start2 → speed ≤ speed2 → priority ≤ priority2 → influence2 ≤ influence
    → IsNoneOrAtLeast (weight_if start speed priority influence mm) (weight_if start2 speed2 priority2 influence2 mm)
unfolding weight_if
weight_falls start speed priority influence start2 speed2 priority2 influence2 mm l ls lp li =
    by_tests (start == 0 || speed == 0 || priority == 0) (start2 == 0 || speed2 == 0 || priority2 == 0)
    (time_at speed priority mm + distance_share influence mm) (time_at speed2 priority2 mm + distance_share influence2 mm)
    (zero_stays start speed priority start2 speed2 priority2 l ls lp)
    (λ none.
    let some = none_is_zero start speed priority none in
    let t = time_falls speed priority speed2 priority2 mm some.0 some.1 ls lp in
    let s = share_rises influence2 influence mm li in
    omega arith)

last_none : (first later : Option Offence) → first_of first later ≡ None → later ≡ None
last_none None later e = e
last_none (Some offence) later e = absurd cc

-- a slow model that is taken under a profile only slows it
pub only_slows : (profile query : CustomModel) → IsSlow query → offender profile query ≡ None → OnlySlows profile query
unfolding offender
only_slows profile query slow e = record {
  slow = slow;
  influence =
      let influence = low_influence profile.distance_influence query.distance_influence in
      let rest = first_of (offender_among part.Priority 1 query.priority) influence in
      last_none (offender_among part.Priority 1 query.priority) influence (last_none (offender_among part.Speed 1 query.speed) rest e);
}

slow_list : (running : Running) (query : CustomModel) → IsSlow query → IsTrue (are_slowing (list_of running query))
slow_list Speed query slow = slow.speed
slow_list Priority query slow = slow.priority

run_falls : (running : Running) (profile : CustomModel) (query : Option CustomModel) (graph : Graph) (by : DirEdge) (x y : ℕ) → IfSome query (OnlySlows profile) → AreStored (values_at graph by) → x ≤ y
    → run_if running query graph by (run_of running profile graph by x) ≤ run_of running profile graph by y
run_falls running profile None graph by x y slowing stored le = run_keeps running (list_of running profile) (values_at graph by) (areas_in profile graph by) x y le
run_falls running profile (Some query) graph by x y slowing stored le =
    let keeps : run_of running profile graph by x ≤ run_of running profile graph by y = run_keeps running (list_of running profile) (values_at graph by) (areas_in profile graph by) x y le in
    let slows : run_of running query graph by (run_of running profile graph by x) ≤ run_of running profile graph by x =
    run_slows running (list_of running query) (values_at graph by) (areas_in query graph by) (run_of running profile graph by x) (slow_list running query slowing.slow) stored in
    omega arith

influence_within : (profile query : Option ℕ) → low_influence profile query ≡ None → unwrap_or profile 0 ≤ unwrap_or (option_or query profile) 0
influence_within profile None e = omega arith
influence_within profile (Some d) e = elim (cases_Bool (nat_lt d (unwrap_or profile 0))) [
  | inl t ↦ absurd (let e' = rw t at e in cc)
  | inr f ↦ ltb-false d (unwrap_or profile 0) f
]

influence_rises : (rule : Rule) (query : Option CustomModel) → IfSome query (OnlySlows rule.profile) → influence_by (alone rule) ≤ influence_by (record { vehicle = rule.vehicle; profile = rule.profile; query = query })
influence_rises rule None slowing = omega arith
influence_rises rule (Some query) slowing = influence_within rule.profile.distance_influence query.distance_influence slowing.influence

pub no_weight_falls : NoWeightFalls
unfolding weight_by
no_weight_falls rule graph by limit earlier mm slowing stored le =
    let start : first_speed rule graph by limit ≤ first_speed (alone rule) graph by earlier = omega arith in
    weight_falls (first_speed rule graph by limit) (run_by Speed rule graph by (first_speed rule graph by limit)) (run_by Priority rule graph by first_priority) (influence_by rule)
    (first_speed (alone rule) graph by earlier) (run_by Speed (alone rule) graph by (first_speed (alone rule) graph by earlier)) (run_by Priority (alone rule) graph by first_priority) (influence_by (alone rule)) mm
    start
    (run_falls Speed rule.profile rule.query graph by (first_speed rule graph by limit) (first_speed (alone rule) graph by earlier) slowing stored start)
    (run_falls Priority rule.profile rule.query graph by first_priority first_priority slowing stored (omega arith))
    (influence_rises rule rule.query slowing)

some_at : (weight base : Option ℕ) → IsNoneOrAtLeast weight base → IsSome weight → IsSome base × (unwrap_or base 0 ≤ unwrap_or weight 0)
some_at None base h s = absurd (let e : false ≡ true = s in cc)
some_at (Some w) None h s = absurd (let e = h.1 in cc)
some_at (Some w) (Some b) h s = (s, let e : Some b ≡ Some h.0 = h.1 in let l = h.2 in grind arith)

hop_falls : (side : Side) (rule : Rule) (graph : Graph) (limits earlier : DirEdge → ℕ) → IsSlowing rule → HasStored graph → AreNowhereAbove graph limits earlier → (by : DirEdge) → by.edge.0 < length graph.edges
    → IsNoneOrAtLeast (hop_of side rule limits graph by).weight (hop_of side (alone rule) earlier graph by).weight
hop_falls Out rule graph limits earlier slowing stored above by there =
    no_weight_falls rule graph by (limits by) (earlier by) (edge_at graph.edges by.edge.0).mm slowing (stored by there) (above by there)
hop_falls Back rule graph limits earlier slowing stored above by there =
    let back = opposite by in
    no_weight_falls rule graph back (limits back) (earlier back) (edge_at graph.edges by.edge.0).mm slowing (stored back there) (above back there)

pub no_hop_is_faster : NoHopIsFaster
no_hop_is_faster side rule graph limits earlier slowing facts above node hop c some =
    let stored = values_are_stored graph facts in
    each_hop side rule limits graph node
    (λ (h : Hop). IsSome h.weight → (other : Hop) × Contains (hops_from (network_of side (alone rule) earlier graph) node) other × IsSome other.weight × (other.to.0 ≡ h.to.0) × (cost other ≤ cost h))
    (λ by b is.
    let f = hop_of side (alone rule) earlier graph in
    let w = some_at (hop_of side rule limits graph by).weight (f by).weight (hop_falls side rule graph limits earlier slowing stored above by (around_edge graph node by facts b)) is in
    (f by, contains_map f (around_of graph node) by b, w.0, hop_to side (alone rule) earlier graph by ∙ sym (hop_to side rule limits graph by), w.1))
    hop c some

time_fits : (speed priority mm : ℕ) → 0 < speed → 0 < priority → time_at speed priority mm ≤ 3600 * mm * 1000000
unfolding time_at
time_fits speed priority mm s p = quotient_within (3600 * mm * 1000000) (speed * priority) (mul-pos s p)

share_fits : (influence mm : ℕ) → mm < 2 ^ 32 → influence < 2 ^ 32 → distance_share influence mm ≤ 18446744073709552
unfolding distance_share
share_fits influence mm m i =
    let mm_within : mm ≤ 4294967296 = omega arith in
    let influence_within : influence ≤ 4294967296 = omega arith in
    let product : mm * influence ≤ 4294967296 * 4294967296 = mul-le-mul mm_within influence_within in
    omega arith

if_some : (barred : Bool) (weight : ℕ) → (barred ≡ false → weight < 2 ^ 64) → IfSome (cond barred None (Some weight)) (λ w. w < 2 ^ 64)
if_some true weight h = tt
if_some false weight h = h refl

weight_fits : (start speed priority influence mm : ℕ) → mm < 2 ^ 32 → influence < 2 ^ 32 → IfSome (weight_if start speed priority influence mm) (λ w. w < 2 ^ 64)
unfolding weight_if
weight_fits start speed priority influence mm m i =
    if_some (start == 0 || speed == 0 || priority == 0) (time_at speed priority mm + distance_share influence mm)
    (λ none.
    let some = none_is_zero start speed priority none in
    let t = time_fits speed priority mm some.0 some.1 in
    let s = share_fits influence mm m i in
    omega arith)

pub weights_fit : WeightsFit
unfolding weight_by
weights_fit rule graph edge limit mm m i =
    let start = first_speed rule graph edge limit in
    weight_fits start (run_by Speed rule graph edge start) (run_by Priority rule graph edge first_priority) (influence_by rule) mm m i
