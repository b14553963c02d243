-- A preparation over the roads of a size has all four landmarks that it was asked for.
use Rattle.std.proofs.Common.{◌≡◌, ◌∙◌, ℕ, ℤ, zero, ◌+◌, ◌-◌, ◌*◌, ◌<◌, ◌≤◌, ◌⊎◌, pos, Bool, true, false, List, [], ◌∷◌, length, take, IsSome, All, Contains, inl, inr, sym, ap, subst, refl, arith}
use Rattle.std.specs.Prelude.{slice_index}
use Rattle.std.proofs.lemmas.Bool.{cases_Bool, cases_lt}
use Rattle.std.proofs.lemmas.List.{length-map}
use Rattle.gh_base.specs.declared.edges.DirEdge.{DirEdge}
use Rattle.gh_base.specs.declared.edges.Hop.{Hop}
use Rattle.gh_base.specs.Networks.{Network}
use Rattle.walk_rules.specs.Walks.{cost, hops_from}
use Rattle.walk_rules.proofs.Options.{Contains-cons_cases}
use Rattle.walk_rules.proofs.Walking.{walk_within}
use Rattle.base_graph.specs.Graphs.{directed, edge_at, head, tail}
use Rattle.base_graph.specs.Starting.{around_edge}
use Rattle.map_import.specs.Roads.{number, place_at, place_in}
use Rattle.weighting.specs.declared.weight_view.Side.TheVariants.{Out}
use Rattle.weighting.specs.Rules.{Rule}
use Rattle.weighting.specs.Roads.{hop_out, network_by}
use Rattle.weighting.specs.RoadFacts.{each_hop, leads_to_nodes}
use Rattle.weighting.proofs.Turned.{contains_map}
use Rattle.landmark_prep.specs.Preparations.{IsPrepOf, Preparation}
use Rattle.traffic_core.specs.declared.entry.Entry.{Entry}
use Rattle.traffic_core.specs.History.{limit_in}
use Rattle.traffic_core.specs.Lands.{Land}
use Rattle.traffic_core.specs.Truth.{IsPrepAt}
use Rattle.generated_run.specs.Generating.{AreRoadsOfSize}
use Rattle.generated_run.specs.Maps.{id_at, map_of}
use Rattle.summary_laws.proofs.GridEdges.{Joins, joins_column, joins_row, long_edge, numbers_apart, tower_at, tower_of}
use Rattle.summary_laws.proofs.LeastLeaving.{LeadsOut, choice_is_full, found, is_one_of}
use Rattle.summary_laws.proofs.LimitsOfTen.{IsMild}
use Rattle.summary_laws.proofs.OpenGrid.{fast_along, rule_is_cars, some_limit}
use Rattle.summary_laws.proofs.OpenRoads.{car_rule, has_weight, weighs_some}
use Rattle.summary_laws.proofs.SameRoads.{edge_stands}
use Rattle.summary_laws.proofs.Towers.{without}

-- four different numbers don't stand in a list of three
four_in : (xs : List ℕ) (a b c d : ℕ) → length xs < 4 → (a ≡ b → ⊥) → (a ≡ c → ⊥) → (a ≡ d → ⊥) → (b ≡ c → ⊥) → (b ≡ d → ⊥) → (c ≡ d → ⊥) →
    Contains xs a → Contains xs b → Contains xs c → Contains xs d → ⊥
four_in xs a b c d short ab ac ad bc bd cd at_a at_b at_c at_d =
    let first = without xs a at_a in
    let second = without first.rest b (first.has b ab at_b) in
    let third = without second.rest c (second.has c bc (first.has c ac at_c)) in
    let last = third.has d cd (second.has d bd (first.has d ad at_d)) in
    let one = first.less in
    let two = second.less in
    let three = third.less in
    let below = last.1 in
    omega arith

-- another row or column beside one
record IsBeside (size k : ℕ) : Type 0 where
  other : ℕ
  below : other < size
  next : (other ≡ k + 1) ⊎ (k ≡ other + 1)

beside : (size k : ℕ) → 2 ≤ size → k < size → IsBeside size k
beside size k two inside = elim (cases_lt (k + 1) size) [
  | inl more ↦ record { other = k + 1; below = more; next = inl refl }
  | inr last ↦ record { other = k - 1; below = omega arith; next = inr (omega arith) }
]

first_in : (xs : List ℕ) → 0 < length xs → Contains xs (slice_index xs 0)
first_in [] some = absurd (omega arith)
first_in (x ∷ xs) some = (zero, omega arith, refl)

ids_differ : (m n : ℕ) → (m ≡ n → ⊥) → pos m ≡ pos n → ⊥
ids_differ m n apart e = apart (let same : m ≡ n = cc in same)

module _ (size : ℕ) (two : 2 ≤ size) (few : size ≤ 300) (land : Land) (are : AreRoadsOfSize size land) (limits : DirEdge → ℕ) (some : (by : DirEdge) → by.edge.0 < length land.graph.edges → 0 < limits by) where
  abbrev roads : Network
  roads = network_by car_rule limits land.graph

  abbrev at : ℕ → ℕ → ℕ
  at row column = tower_at size two few land are row column

  record HasHop (from to : ℕ) : Type 0 where
    hop : Hop
    there : Contains (hops_from roads from) hop
    weighs : IsSome hop.weight
    to_is : hop.to.0 ≡ to

  hop_along : (edge : ℕ) (reverse : Bool) → edge < length land.graph.edges → HasHop (tail (edge_at land.graph.edges edge) reverse) (head (edge_at land.graph.edges edge) reverse)
  hop_along edge reverse inside =
      let graph = land.graph in
      let by : DirEdge = directed edge reverse in
      record {
        hop = hop_out car_rule limits graph by;
        there = contains_map (hop_out car_rule limits graph) _ by (edge_stands graph are.roads.graph edge reverse inside);
        weighs = has_weight graph by (limits by) _ (fast_along size land are by inside) (some by inside);
        to_is = refl;
      }

  forward : (one other : ℤ) (j : Joins size two few land are one other) → HasHop (number land.ids one) (number land.ids other)
  forward one other j = subst (λ n. HasHop n (number land.ids other)) j.base (subst (λ m. HasHop (edge_at land.graph.edges j.edge).base.0 m) j.adjacent (hop_along j.edge false j.there))

  back : (one other : ℤ) (j : Joins size two few land are one other) → HasHop (number land.ids other) (number land.ids one)
  back one other j = subst (λ n. HasHop n (number land.ids one)) j.adjacent (subst (λ m. HasHop (edge_at land.graph.edges j.edge).adjacent.0 m) j.base (hop_along j.edge true j.there))

  aside : (row column other : ℕ) → row < size → column < size → other < size → (other ≡ column + 1) ⊎ (column ≡ other + 1) → HasHop (at row column) (at row other)
  aside row column other r c o (inl next) =
      subst (λ n. HasHop (at row column) (at row n)) (sym next) (forward (id_at size row column) (id_at size row (column + 1)) (joins_row size two few land are row column r (omega arith)))
  aside row column other r c o (inr next) =
      subst (λ n. HasHop (at row n) (at row other)) (sym next) (back (id_at size row other) (id_at size row (other + 1)) (joins_row size two few land are row other r (omega arith)))

  ahead : (row column other : ℕ) → row < size → column < size → other < size → (other ≡ row + 1) ⊎ (row ≡ other + 1) → HasHop (at row column) (at other column)
  ahead row column other r c o (inl next) =
      subst (λ n. HasHop (at row column) (at n column)) (sym next) (forward (id_at size row column) (id_at size (row + 1) column) (joins_column size two few land are row column (omega arith) c))
  ahead row column other r c o (inr next) =
      subst (λ n. HasHop (at n column) (at other column)) (sym next) (back (id_at size other column) (id_at size (other + 1) column) (joins_column size two few land are other column (omega arith) c))

  out_by : (landmarks : List ℕ) (from to : ℕ) → Contains landmarks from → HasHop from to → is_one_of landmarks to ≡ false → LeadsOut roads landmarks
  out_by landmarks from to inside has out = record { from = from; one_of = inside; hop = has.hop; there = has.there; has_weight = has.weighs; out = ap (is_one_of landmarks) has.to_is ∙ out }

  -- towers of one row or column apart
  in_row_apart : (row column other : ℕ) → row < size → column < size → other < size → (other ≡ column + 1) ⊎ (column ≡ other + 1) → at row column ≡ at row other → ⊥
  in_row_apart row column other r c o (inl next) same = numbers_apart size two few land are row column row other r c r o (ids_differ _ _ (λ e. omega arith)) same
  in_row_apart row column other r c o (inr next) same = numbers_apart size two few land are row column row other r c r o (ids_differ _ _ (λ e. omega arith)) same

  rows_apart : (row column other last : ℕ) → row < size → column < size → other < size → last < size → (other ≡ row + 1) ⊎ (row ≡ other + 1) → at row column ≡ at other last → ⊥
  rows_apart row column other last r c o l (inl next) same =
      numbers_apart size two few land are row column other last r c o l (ids_differ _ _ (λ e. let turned : row * size + column + 1 ≡ (row + 1) * size + last + 1 = e ∙ ap (λ n. n * size + last + 1) next in omega arith)) same
  rows_apart row column other last r c o l (inr next) same =
      numbers_apart size two few land are row column other last r c o l (ids_differ _ _ (λ e. let turned : (other + 1) * size + column + 1 ≡ other * size + last + 1 = ap (λ n. n * size + column + 1) (sym next) ∙ e in omega arith)) same

  -- a hop leads out of fewer than four of the towers
  leads_out : (landmarks : List ℕ) (tower : ℕ) → length landmarks < 4 → tower < length land.ids → Contains landmarks tower → LeadsOut roads landmarks
  leads_out landmarks tower short below has =
      let on = tower_of size two few land are tower below in
      let row = on.row in
      let column = on.column in
      let up = beside size row two on.row_below in
      let side = beside size column two on.column_below in
      let first : Contains landmarks (at row column) = subst (λ n. Contains landmarks n) on.is has in
      let to_second = aside row column side.other on.row_below on.column_below side.below side.next in
      let to_third = ahead row side.other up.other on.row_below side.below up.below up.next in
      let back_side : (column ≡ side.other + 1) ⊎ (side.other ≡ column + 1) = elim side.next [ inl e ↦ inr e | inr e ↦ inl e ] in
      let to_fourth = aside up.other side.other column up.below side.below on.column_below back_side in
      elim (cases_Bool (is_one_of landmarks (at row side.other))) [
        | inr out ↦ out_by landmarks (at row column) (at row side.other) first to_second out
        | inl second ↦ elim (cases_Bool (is_one_of landmarks (at up.other side.other))) [
          | inr out ↦ out_by landmarks (at row side.other) (at up.other side.other) (found landmarks (at row side.other) second) to_third out
          | inl third ↦ elim (cases_Bool (is_one_of landmarks (at up.other column))) [
            | inr out ↦ out_by landmarks (at up.other side.other) (at up.other column) (found landmarks (at up.other side.other) third) to_fourth out
            | inl fourth ↦ absurd (four_in landmarks (at row column) (at row side.other) (at up.other side.other) (at up.other column) short
                (in_row_apart row column side.other on.row_below on.column_below side.below side.next)
                (rows_apart row column up.other side.other on.row_below on.column_below up.below side.below up.next)
                (rows_apart row column up.other column on.row_below on.column_below up.below on.column_below up.next)
                (rows_apart row side.other up.other side.other on.row_below side.below up.below side.below up.next)
                (rows_apart row side.other up.other column on.row_below side.below up.below on.column_below up.next)
                (in_row_apart up.other side.other column up.below side.below on.column_below back_side)
                first (found landmarks (at row side.other) second) (found landmarks (at up.other side.other) third) (found landmarks (at up.other column) fourth))
          ]
        ]
      ]

  positive : (node : ℕ) (hop : Hop) → Contains (hops_from roads node) hop → IsSome hop.weight → 0 < cost hop
  positive node hop has weighs = each_hop Out car_rule limits land.graph node (λ (h : Hop). 0 < cost h)
      (λ by there.
      let inside = around_edge land.graph node by are.roads.graph there in
      weighs_some land.graph by (limits by) _ (fast_along size land are by inside) (some by inside) (long_edge size two few land are by.edge.0 inside))
      hop has

  towers_are_ids : length land.ids ≡ length land.graph.places
  towers_are_ids = sym (ap length are.roads.places ∙ length-map land.ids (place_at (place_in (map_of size).nodes)))

  pub four_landmarks : (prep : Preparation) → IsPrepOf (network_by car_rule limits land.graph) 4 prep → length prep.landmarks ≡ 4
  four_landmarks prep is =
      let choice = is.placing.landmarks_are in
      let near = choice.each.first.at in
      let one = slice_index prep.landmarks 0 in
      let source : near.source ≡ is.placing.start = elim (Contains-cons_cases is.placing.start [] near.source near.one_of) [
        | inl e ↦ sym e
        | inr never ↦ absurd (omega (arith, never.1))
      ] in
      let begins : near.source < length land.graph.places = subst (λ n. n < length land.graph.places) (sym source) is.placing.start_is.within in
      let below : one < length land.graph.places =
      walk_within roads (leads_to_nodes Out car_rule limits land.graph are.roads.graph) near.walk.hops near.source one begins near.walk.is_least.walk in
      let within = choice.within in
      elim (cases_lt (length prep.landmarks) 4) [
        | inr full ↦ omega arith
        | inl short ↦ choice_is_full roads is.placing.start 4 prep.landmarks choice positive
            (leads_out prep.landmarks one short (omega (arith, below, towers_are_ids)) (first_in prep.landmarks choice.each.some))
      ]

-- at whatever limits the script leaves
pub landmarks_are_four : (size : ℕ) → 2 ≤ size → size ≤ 300 → (land : Land) → AreRoadsOfSize size land → (journal : List Entry) → ((by : DirEdge) → All (IsMild by) journal) → (count : ℕ) (prep : Preparation) →
    IsPrepAt land (take count journal) 0 4 prep → length prep.landmarks ≡ 4
landmarks_are_four size two few land are journal mild count prep is =
    let snapshot : DirEdge → ℕ = limit_in prep.snapshot in
    let some : (by : DirEdge) → by.edge.0 < length land.graph.edges → 0 < snapshot by = λ by inside.
    let same = is.snapshot.each by in
    let above = some_limit land.graph journal by (mild by) (fast_along size land are by inside) count in
    omega (arith, same, above) in
    four_landmarks size two few land are snapshot some prep (subst (λ (rule : Rule). IsPrepOf (network_by rule snapshot land.graph) 4 prep) (rule_is_cars size land are) is.is_prep)
