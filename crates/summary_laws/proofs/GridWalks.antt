-- Each query of a script of a size is answered with a walk: the grid is one piece, and a walk over it doesn't weigh too much.
use Rattle.std.proofs.Common.{◌≡◌, ℕ, ℤ, zero, suc, ◌+◌, ◌-◌, ◌*◌, ◌<◌, ◌≤◌, Bool, true, false, List, [], ◌∷◌, ◌++◌, length, Option, Some, None, IsSome, Contains, inl, inr, sym, subst, refl, arith}
use Rattle.std.specs.Prelude.{◌==◌, unwrap_or}
use Rattle.std.proofs.lemmas.Bool.{cases_lt}
use Rattle.std.proofs.lemmas.Bool.Decides.{nat_tests}
use Rattle.std.proofs.lemmas.Nat.{div_below}
use Rattle.gh_base.specs.declared.edges.DirEdge.{DirEdge}
use Rattle.gh_base.specs.declared.edges.Hop.{Hop}
use Rattle.gh_base.specs.declared.query.Vehicle.TheVariants.{Car}
use Rattle.gh_base.specs.Networks.{Network}
use Rattle.walk_rules.specs.Walks.{IsWalk, cost, hops_from, weight_of}
use Rattle.base_graph.specs.Facts.{edge_is}
use Rattle.base_graph.specs.Graphs.{Graph, directed, edge_at, head, tail}
use Rattle.map_import.specs.Roads.{number}
use Rattle.model_eval.specs.Running.{run}
use Rattle.weighting.specs.Rules.{Rule}
use Rattle.weighting.specs.Roads.{hop_out, network_by}
use Rattle.weighting.specs.Weights.{distance_share, first_speed, time_at, weight_by, weight_if}
use Rattle.weighting.proofs.Turned.{contains_map}
use Rattle.traffic_core.specs.Answers.{greatest_weight}
use Rattle.traffic_core.specs.Lands.{Land}
use Rattle.generated_run.specs.Generating.{AreRoadsOfSize}
use Rattle.generated_run.specs.Maps.{id_at}
use Rattle.summary_laws.proofs.GridEdges.{Joins, joins_column, joins_row, tower_at}
use Rattle.summary_laws.proofs.OpenGrid.{fast_along}
use Rattle.summary_laws.proofs.OpenRoads.{no_model}
use Rattle.summary_laws.proofs.SameRoads.{edge_stands}

-- the rule of cars under a query without a statement
abbrev pub query_rule : Rule
query_rule = record { vehicle = Car; profile = no_model; query = Some no_model }

not_zero : (n : ℕ) → 0 < n → (n == 0) ≡ false
not_zero n some = grind (arith, nat_tests)

query_weight : (graph : Graph) (by : DirEdge) (limit mm : ℕ) → 0 < first_speed query_rule graph by limit →
    weight_by query_rule graph by limit mm ≡ Some (time_at (first_speed query_rule graph by limit) 1000000 mm + distance_share 0 mm)
unfolding weight_by weight_if run
query_weight graph by limit mm some = rw (not_zero (first_speed query_rule graph by limit) some) refl

-- no edge weighs more at 1 km/h
abbrev most : ℕ
most = 15500000000

share_none : (mm : ℕ) → distance_share 0 mm ≡ 0
unfolding distance_share
share_none mm = omega arith

time_light : (speed mm : ℕ) → 1000 ≤ speed → mm < 4294967296 → time_at speed 1000000 mm ≤ most
unfolding time_at
time_light speed mm fast short =
    let below = div_below (3600 * mm * 1000000) (speed * 1000000) 15461882270 (omega arith) (omega arith) in
    omega arith

weighs_some : (o : Option ℕ) (w : ℕ) → o ≡ Some w → IsSome o
weighs_some (Some x) w is = refl
weighs_some None w is = absurd cc

weighs_by : (o : Option ℕ) (w n : ℕ) → o ≡ Some w → w ≤ n → unwrap_or o 0 ≤ n
weighs_by (Some x) w n is le = let same : x ≡ w = cc in omega arith
weighs_by None w n is le = absurd cc

-- a walk of so many hops, none of which weighs more than that
record IsShort (network : Network) (from to count : ℕ) : Type 0 where
  hops : List Hop
  walk : IsWalk network from hops to
  light : weight_of hops ≤ count * most

no_hop : (network : Network) (node : ℕ) → IsShort network node node 0
no_hop network node = record { hops = []; walk = refl; light = omega arith }

nothing_more : (n : ℕ) → n ≡ n + 0
nothing_more n = omega arith

hop_first : (network : Network) (from mid to count : ℕ) (hop : Hop) → Contains (hops_from network from) hop → IsSome hop.weight → hop.to.0 ≡ mid → cost hop ≤ most → IsShort network mid to count → IsShort network from to (count + 1)
hop_first network from mid to count hop there weighs to_is light rest = record {
  hops = hop ∷ rest.hops;
  walk = (there, weighs, subst (λ n. IsWalk network n rest.hops to) (sym to_is) rest.walk);
  light = let more = rest.light in omega arith;
}

walk_on : (network : Network) (hops more : List Hop) (a b c : ℕ) → IsWalk network a hops b → IsWalk network b more c → IsWalk network a (hops ++ more) c × (weight_of (hops ++ more) ≡ weight_of hops + weight_of more)
walk_on network [] more a b c walk on = (subst (λ n. IsWalk network n more c) (sym walk) on, omega arith)
walk_on network (hop ∷ hops) more a b c walk on =
    let rest = walk_on network hops more hop.to.0 b c walk.2 on in
    let sum = rest.1 in
    ((walk.0, walk.1, rest.0), omega arith)

both_ways : (network : Network) (a b c n m : ℕ) → IsShort network a b n → IsShort network b c m → IsShort network a c (n + m)
both_ways network a b c n m one other =
    let on = walk_on network one.hops other.hops a b c one.walk other.walk in
    let sum = on.1 in
    let first = one.light in
    let second = other.light in
    record { hops = one.hops ++ other.hops; walk = on.0; light = omega arith }

module _ (size : ℕ) (two : 2 ≤ size) (few : size ≤ 300) (land : Land) (are : AreRoadsOfSize size land) (limits : DirEdge → ℕ) (some : (by : DirEdge) → by.edge.0 < length land.graph.edges → 1000 ≤ limits by) where
  abbrev roads : Network
  roads = network_by query_rule limits land.graph

  abbrev at : ℕ → ℕ → ℕ
  at row column = tower_at size two few land are row column

  record HasLight (from to : ℕ) : Type 0 where
    hop : Hop
    there : Contains (hops_from roads from) hop
    weighs : IsSome hop.weight
    to_is : hop.to.0 ≡ to
    light : cost hop ≤ most

  light_along : (edge : ℕ) (reverse : Bool) → edge < length land.graph.edges → HasLight (tail (edge_at land.graph.edges edge) reverse) (head (edge_at land.graph.edges edge) reverse)
  light_along edge reverse inside =
      let graph = land.graph in
      let by : DirEdge = directed edge reverse in
      let is = edge_is graph edge are.roads.graph inside in
      let fast = fast_along size land are by inside in
      let limit = some by inside in
      let mm = (edge_at graph.edges edge).mm in
      let speed : 1000 ≤ first_speed query_rule graph by (limits by) = omega arith in
      let weight = query_weight graph by (limits by) mm (omega arith) in
      let short = is.mm in
      let time = time_light (first_speed query_rule graph by (limits by)) mm speed (omega arith) in
      let share = share_none mm in
      record {
        hop = hop_out query_rule limits graph by;
        there = contains_map (hop_out query_rule limits graph) _ by (edge_stands graph are.roads.graph edge reverse inside);
        weighs = weighs_some _ _ weight;
        to_is = refl;
        light = weighs_by _ _ most weight (omega (arith, time, share));
      }

  forward : (one other : ℤ) (j : Joins size two few land are one other) → HasLight (number land.ids one) (number land.ids other)
  forward one other j = subst (λ n. HasLight n (number land.ids other)) j.base (subst (λ m. HasLight (edge_at land.graph.edges j.edge).base.0 m) j.adjacent (light_along j.edge false j.there))

  back : (one other : ℤ) (j : Joins size two few land are one other) → HasLight (number land.ids other) (number land.ids one)
  back one other j = subst (λ n. HasLight n (number land.ids one)) j.adjacent (subst (λ m. HasLight (edge_at land.graph.edges j.edge).adjacent.0 m) j.base (light_along j.edge true j.there))

  go : (from mid to count : ℕ) → HasLight from mid → IsShort roads mid to count → IsShort roads from to (count + 1)
  go from mid to count has rest = hop_first roads from mid to count has.hop has.there has.weighs has.to_is has.light rest

  right : (k row column : ℕ) → row < size → column + k < size → IsShort roads (at row column) (at row (column + k)) k
  right zero row column r c = subst (λ n. IsShort roads (at row column) (at row n) 0) (nothing_more column) (no_hop roads (at row column))
  right (suc k) row column r c =
      let rest = right k row (column + 1) r (omega arith) in
      let there : column + 1 + k ≡ column + suc k = omega arith in
      let count : k + 1 ≡ suc k = omega arith in
      subst (λ n. IsShort roads (at row column) (at row (column + suc k)) n) count
      (go (at row column) (at row (column + 1)) (at row (column + suc k)) k (forward (id_at size row column) (id_at size row (column + 1)) (joins_row size two few land are row column r (omega arith)))
      (subst (λ n. IsShort roads (at row (column + 1)) (at row n) k) there rest))

  left : (k row column : ℕ) → row < size → column + k < size → IsShort roads (at row (column + k)) (at row column) k
  left zero row column r c = subst (λ n. IsShort roads (at row n) (at row column) 0) (nothing_more column) (no_hop roads (at row column))
  left (suc k) row column r c =
      let rest = left k row column r (omega arith) in
      let there : column + k + 1 ≡ column + suc k = omega arith in
      let count : k + 1 ≡ suc k = omega arith in
      subst (λ n. IsShort roads (at row (column + suc k)) (at row column) n) count
      (subst (λ n. IsShort roads (at row n) (at row column) (k + 1)) there
      (go (at row (column + k + 1)) (at row (column + k)) (at row column) k (back (id_at size row (column + k)) (id_at size row (column + k + 1)) (joins_row size two few land are row (column + k) r (omega arith))) rest))

  up : (k row column : ℕ) → row + k < size → column < size → IsShort roads (at row column) (at (row + k) column) k
  up zero row column r c = subst (λ n. IsShort roads (at row column) (at n column) 0) (nothing_more row) (no_hop roads (at row column))
  up (suc k) row column r c =
      let rest = up k (row + 1) column (omega arith) c in
      let there : row + 1 + k ≡ row + suc k = omega arith in
      let count : k + 1 ≡ suc k = omega arith in
      subst (λ n. IsShort roads (at row column) (at (row + suc k) column) n) count
      (go (at row column) (at (row + 1) column) (at (row + suc k) column) k (forward (id_at size row column) (id_at size (row + 1) column) (joins_column size two few land are row column (omega arith) c))
      (subst (λ n. IsShort roads (at (row + 1) column) (at n column) k) there rest))

  down : (k row column : ℕ) → row + k < size → column < size → IsShort roads (at (row + k) column) (at row column) k
  down zero row column r c = subst (λ n. IsShort roads (at n column) (at row column) 0) (nothing_more row) (no_hop roads (at row column))
  down (suc k) row column r c =
      let rest = down k row column (omega arith) c in
      let there : row + k + 1 ≡ row + suc k = omega arith in
      let count : k + 1 ≡ suc k = omega arith in
      subst (λ n. IsShort roads (at (row + suc k) column) (at row column) n) count
      (subst (λ n. IsShort roads (at n column) (at row column) (k + 1)) there
      (go (at (row + k + 1) column) (at (row + k) column) (at row column) k (back (id_at size (row + k) column) (id_at size (row + k + 1) column) (joins_column size two few land are (row + k) column (omega arith) c)) rest))

  -- a walk that isn't long
  record IsNearby (from to : ℕ) : Type 0 where
    count : ℕ
    few_hops : count ≤ 300
    short : IsShort roads from to count

  along_row : (row column other : ℕ) → row < size → column < size → other < size → IsNearby (at row column) (at row other)
  along_row row column other r c o = elim (cases_lt other column) [
    | inr le ↦ record { count = other - column; few_hops = omega arith; short = let is : column + (other - column) ≡ other = omega arith in subst (λ n. IsShort roads (at row column) (at row n) (other - column)) is (right (other - column) row column r (omega arith)) }
    | inl less ↦ record { count = column - other; few_hops = omega arith; short = let is : other + (column - other) ≡ column = omega arith in subst (λ n. IsShort roads (at row n) (at row other) (column - other)) is (left (column - other) row other r (omega arith)) }
  ]

  along_column : (row other column : ℕ) → row < size → other < size → column < size → IsNearby (at row column) (at other column)
  along_column row other column r o c = elim (cases_lt other row) [
    | inr le ↦ record { count = other - row; few_hops = omega arith; short = let is : row + (other - row) ≡ other = omega arith in subst (λ n. IsShort roads (at row column) (at n column) (other - row)) is (up (other - row) row column (omega arith) c) }
    | inl less ↦ record { count = row - other; few_hops = omega arith; short = let is : other + (row - other) ≡ row = omega arith in subst (λ n. IsShort roads (at n column) (at other column) (row - other)) is (down (row - other) other column (omega arith) c) }
  ]

  -- over the grid a walk leads from each tower to each, and doesn't weigh too much
  pub record IsReached (from to : ℕ) : Type 0 where
    pub hops : List Hop
    pub walk : IsWalk (network_by query_rule limits land.graph) from hops to
    pub light : weight_of hops ≤ greatest_weight

  pub reached : (a b c d : ℕ) → a < size → b < size → c < size → d < size → IsReached (tower_at size two few land are a b) (tower_at size two few land are c d)
  reached a b c d a_in b_in c_in d_in =
      let first = along_row a b d a_in b_in d_in in
      let second = along_column a c d a_in c_in d_in in
      let whole = both_ways roads (at a b) (at a d) (at c d) first.count second.count first.short second.short in
      let one = first.few_hops in
      let two_more = second.few_hops in
      let light = whole.light in
      record { hops = whole.hops; walk = whole.walk; light = omega arith }
