-- Roads with the same towers and edges have the same walks, in whatever order edges stand round a tower.
use Rattle.std.proofs.Common.{◌≡◌, ℕ, ◌<◌, ◌≤◌, Bool, true, false, ◌&&◌, List, [], ◌∷◌, length, Contains, Option, Some, None, zero, suc, refl, sym, ap, subst, ◌∙◌, inl, inr, arith}
use Rattle.std.specs.Prelude.{nat_lt, slice_index_or, ◌==◌}
use Rattle.std.proofs.lemmas.Bool.{cases_Bool, cases_lt, eq-eqb, eqb-true, lt-ltb}
use Rattle.gh_base.specs.declared.edges.DirEdge.{DirEdge}
use Rattle.gh_base.specs.declared.edges.Hop.{Hop}
use Rattle.gh_base.specs.declared.query.Vehicle.{Vehicle}
use Rattle.base_graph.specs.Facts.{edge_is}
use Rattle.base_graph.specs.Graphs.{Edge, Graph, IsEdge, IsGraph, around_of, directed, edge_at, is_same, same_side, starts_at, tail, times}
use Rattle.base_graph.specs.Starting.{around_starts}
use Rattle.walk_rules.specs.Walks.{IsWalk}
use Rattle.model_eval.specs.declared.custom_model.CustomModel.{CustomModel}
use Rattle.weighting.specs.declared.weight_view.Side.TheVariants.{Out}
use Rattle.weighting.specs.Rules.{Rule}
use Rattle.weighting.specs.Roads.{hop_out, network_by}
use Rattle.weighting.specs.RoadFacts.{each_hop}
use Rattle.weighting.specs.Weights.{weight_by}
use Rattle.weighting.proofs.Turned.{contains_map}

-- roads with these directed edges round their towers
abbrev pub with_around : Graph → List (List DirEdge) → Graph
with_around graph around = record { places = graph.places; edges = graph.edges; around = around }

hop_by : (vehicle : Vehicle) (profile : CustomModel) (query : Option CustomModel) (limits : DirEdge → ℕ) (graph : Graph) (around : List (List DirEdge)) (by : DirEdge) →
    hop_out (record { vehicle = vehicle; profile = profile; query = query }) limits graph by ≡ hop_out (record { vehicle = vehicle; profile = profile; query = query }) limits (with_around graph around) by
unfolding weight_by
hop_by vehicle profile None limits graph around by = refl
hop_by vehicle profile (Some model) limits graph around by = refl

pub same_hop : (rule : Rule) (limits : DirEdge → ℕ) (graph : Graph) (around : List (List DirEdge)) (by : DirEdge) → hop_out rule limits graph by ≡ hop_out rule limits (with_around graph around) by
same_hop rule limits graph around by = hop_by rule.vehicle rule.profile rule.query limits graph around by

both_are : (a b : Bool) → (a && b) ≡ true → (a ≡ true) × (b ≡ true)
both_are true b e = (refl, e)
both_are false b e = absurd cc

side_is : (a b : Bool) → same_side a b ≡ true → a ≡ b
side_is true b e = sym e
side_is false true e = absurd cc
side_is false false e = refl

same_is : (a b : DirEdge) → is_same a b ≡ true → a ≡ b
same_is a b h =
    let p = both_are (a.edge.0 == b.edge.0) (same_side a.reverse b.reverse) h in
    ap (λ (k : ℕ). directed k a.reverse) (eqb-true a.edge.0 b.edge.0 p.0) ∙ ap (λ (s : Bool). directed b.edge.0 s) (side_is a.reverse b.reverse p.1)

-- a list that has a directed edge some times contains it
has_counted : (by : DirEdge) (list : List DirEdge) → 1 ≤ times by list → Contains list by
has_counted by [] some = absurd (omega arith)
has_counted by (x ∷ xs) some = elim (cases_Bool (is_same by x)) [
  | inl t ↦ (zero, omega arith, sym (same_is by x t))
  | inr f ↦ let rest = has_counted by xs (rw f at some) in (suc rest.0, let r = rest.1 in omega arith, rest.2)
]

past : (xs : List (List DirEdge)) (k : ℕ) → length xs ≤ k → slice_index_or xs k [] ≡ []
past [] k h = refl
past (x ∷ xs) zero h = absurd (omega arith)
past (x ∷ xs) (suc k) h = past xs k (omega arith)

-- what starts at a tower stands round it
stands_round : (graph : Graph) → IsGraph graph → (node : ℕ) (by : DirEdge) → node < length graph.places → starts_at graph.edges node by ≡ true → Contains (around_of graph node) by
stands_round graph is node by within starts =
    let once : times by (around_of graph node) ≡ 1 = rw starts at (is.around node by within) in
    has_counted by (around_of graph node) (omega (arith, once))

and_true : (a b : Bool) → a ≡ true → b ≡ true → (a && b) ≡ true
and_true a b p q = rw (p, q) refl

tail_below : (towers : ℕ) (edge : Edge) (reverse : Bool) → IsEdge towers edge → tail edge reverse < towers
tail_below towers edge true is = is.adjacent
tail_below towers edge false is = is.base

-- each directed edge stands round the tower at which it starts
pub edge_stands : (graph : Graph) → IsGraph graph → (edge : ℕ) (reverse : Bool) → edge < length graph.edges → Contains (around_of graph (tail (edge_at graph.edges edge) reverse)) (directed edge reverse)
edge_stands graph is edge reverse there =
    let node = tail (edge_at graph.edges edge) reverse in
    stands_round graph is node (directed edge reverse) (tail_below (length graph.places) (edge_at graph.edges edge) reverse (edge_is graph edge is there))
    (and_true (nat_lt edge (length graph.edges)) (node == node) (lt-ltb edge (length graph.edges) there) (eq-eqb node node refl))

listed : (graph : Graph) → IsGraph graph → (node : ℕ) (by : DirEdge) → Contains (around_of graph node) by → node < length graph.places
listed graph is node by has = elim (cases_lt node (length graph.places)) [
  | inl below ↦ below
  | inr late ↦
      let none : around_of graph node ≡ [] = past graph.around node (let e = is.lists in omega arith) in
      absurd (let c = rw none at has in omega (arith, c.1))
]

module _ (graph : Graph) (around : List (List DirEdge)) (is : IsGraph graph) (also : IsGraph (with_around graph around)) (rule : Rule) (limits : DirEdge → ℕ) where
  -- a hop of the one is a hop of the other
  hop_too : (node : ℕ) (hop : Hop) → Contains ((network_by rule limits graph).hops node) hop → Contains ((network_by rule limits (with_around graph around)).hops node) hop
  hop_too node hop has = each_hop Out rule limits graph node (λ (h : Hop). Contains ((network_by rule limits (with_around graph around)).hops node) h)
      (λ by there.
      let starts = around_starts graph node by is there in
      let other = stands_round (with_around graph around) also node by (listed graph is node by there) starts in
      subst (λ (h : Hop). Contains ((network_by rule limits (with_around graph around)).hops node) h) (sym (same_hop rule limits graph around by))
      (contains_map (hop_out rule limits (with_around graph around)) (around_of (with_around graph around) node) by other))
      hop has

  -- so is a walk
  pub walk_too : (hops : List Hop) (from to : ℕ) → IsWalk (network_by rule limits graph) from hops to → IsWalk (network_by rule limits (with_around graph around)) from hops to
  walk_too [] from to walk = walk
  walk_too (hop ∷ hops) from to walk = (hop_too from hop walk.0, walk.1, walk_too hops hop.to.0 to walk.2)
