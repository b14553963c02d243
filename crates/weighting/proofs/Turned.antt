-- Why the hops of the two sides are the same, turned round.
use Rattle.std.proofs.Common.{◌≡◌, ℕ, zero, suc, ◌≤◌, Bool, true, false, ◌&&◌, List, [], ◌∷◌, length, map, Contains, refl, sym, ap, subst, ◌∙◌, inl, inr, arith}
use Rattle.std.specs.Prelude.{◌==◌, not, nat_lt, if◌then◌else◌}
use Rattle.std.proofs.lemmas.Bool.{cases_Bool, eq-eqb, eqb-true}
use Rattle.gh_base.specs.declared.edges.DirEdge.{DirEdge}
use Rattle.gh_base.specs.declared.edges.Hop.{Hop}
use Rattle.base_graph.specs.Graphs.{Edge, Graph, directed, IsGraph, edge_at, head, tail, around_of, times, is_same, same_side, starts_at}
use Rattle.base_graph.specs.Starting.{around_head, around_starts}
use Rattle.weighting.specs.declared.weight_view.Side.TheVariants.{Out, Back}
use Rattle.weighting.specs.Rules.{Rule}
use Rattle.weighting.specs.Roads.{hop_of, network_by, network_back, opposite}
use Rattle.weighting.specs.RoadFacts.{each_hop, tail_of_opposite}
use Rattle.gh_base.specs.Networks.{Network}
use Rattle.walk_rules.specs.Walks.{HasEachBack}
use Rattle.walk_rules.specs.Turned.{HasEachTurned}
use Rattle.weighting.specs.SlowRoads.{SidesAreTurned, SidesTurnAlongEdges}

pub contains_map : {A B : Type 0} (f : A → B) (xs : List A) (x : A) → Contains xs x → Contains (map f xs) (f x)
contains_map f [] x c = absurd (omega (arith, c.1))
contains_map f (y ∷ xs) x (zero, l, e) = (zero, omega arith, ap f e)
contains_map f (y ∷ xs) x (suc k, l, e) = let rest = contains_map f xs x (k, omega arith, e) in (suc rest.0, let r = rest.1 in omega arith, rest.2)

both : (a b : Bool) → (a && b) ≡ true → (a ≡ true) × (b ≡ true)
both true b e = (refl, e)
both false b e = cc

side_is : (a b : Bool) → same_side a b ≡ true → a ≡ b
side_is true b e = sym e
side_is false true e = absurd cc
side_is false false e = refl

same_is : (a b : DirEdge) → is_same a b ≡ true → a ≡ b
same_is a b h =
    let p = both (a.edge.0 == b.edge.0) (same_side a.reverse b.reverse) h in
    let n : a.edge.0 ≡ b.edge.0 = eqb-true a.edge.0 b.edge.0 p.0 in
    let r : a.reverse ≡ b.reverse = side_is a.reverse b.reverse p.1 in
    ap (λ (k : ℕ). directed k a.reverse) n ∙ ap (λ (s : Bool). directed b.edge.0 s) r

head_of_opposite : (edge : Edge) (reverse : Bool) → head edge (not reverse) ≡ tail edge reverse
head_of_opposite edge true = refl
head_of_opposite edge false = refl

-- a list that has a directed edge some times contains it
counted : (by : DirEdge) (list : List DirEdge) → 1 ≤ times by list → Contains list by
counted by [] some = absurd (omega arith)
counted by (x ∷ xs) some = elim (cases_Bool (is_same by x)) [
  | inl t ↦ (zero, omega arith, sym (same_is by x t))
  | inr f ↦ let rest = counted by xs (rw f at some) in (suc rest.0, let r = rest.1 in omega arith, rest.2)
]

-- what starts at a tower has it as its tail
tail_is : (graph : Graph) → IsGraph graph → (node : ℕ) (by : DirEdge) → Contains (around_of graph node) by → tail (edge_at graph.edges by.edge.0) by.reverse ≡ node
tail_is graph facts node by c =
    let p = both (nat_lt by.edge.0 (length graph.edges)) (tail (edge_at graph.edges by.edge.0) by.reverse == node) (around_starts graph node by facts c) in
    eqb-true (tail (edge_at graph.edges by.edge.0) by.reverse) node p.1

-- the opposite of what starts at a tower starts where that leads
opposite_starts : (graph : Graph) → IsGraph graph → (node : ℕ) (by : DirEdge) → Contains (around_of graph node) by
    → starts_at graph.edges (head (edge_at graph.edges by.edge.0) by.reverse) (opposite by) ≡ true
opposite_starts graph facts node by c =
    let edge = edge_at graph.edges by.edge.0 in
    let p = both (nat_lt by.edge.0 (length graph.edges)) (tail edge by.reverse == node) (around_starts graph node by facts c) in
    let t : (tail edge (not by.reverse) == head edge by.reverse) ≡ true = eq-eqb (tail edge (not by.reverse)) (head edge by.reverse) (tail_of_opposite edge by.reverse) in
    rw (p.0, t)

opposite_around : (graph : Graph) → IsGraph graph → (node : ℕ) (by : DirEdge) → Contains (around_of graph node) by
    → Contains (around_of graph (head (edge_at graph.edges by.edge.0) by.reverse)) (opposite by)
opposite_around graph facts node by c =
    let to = head (edge_at graph.edges by.edge.0) by.reverse in
    let once : times (opposite by) (around_of graph to) ≡ (if starts_at graph.edges to (opposite by) then 1 else 0) = facts.around to (opposite by) (around_head graph node by facts c) in
    let e : times (opposite by) (around_of graph to) ≡ 1 = rw (opposite_starts graph facts node by c) at once in
    counted (opposite by) (around_of graph to) (omega arith)

not_not : (b : Bool) → not (not b) ≡ b
not_not true = refl
not_not false = refl

opposite_twice : (by : DirEdge) → opposite (opposite by) ≡ by
opposite_twice by = ap (λ (s : Bool). directed by.edge.0 s) (not_not by.reverse)

there : (rule : Rule) (limits : DirEdge → ℕ) (graph : Graph) → IsGraph graph → (node : ℕ) (by : DirEdge) → Contains (around_of graph node) by
    → (other : Hop) × Contains ((network_back rule limits graph).hops (hop_of Out rule limits graph by).to.0) other × (other.to.0 ≡ node) × (other.by ≡ by) × (other.weight ≡ (hop_of Out rule limits graph by).weight)
there rule limits graph facts node by c =
    let f = hop_of Back rule limits graph in
    let to = head (edge_at graph.edges by.edge.0) by.reverse in (
      f (opposite by),
      contains_map f (around_of graph to) (opposite by) (opposite_around graph facts node by c),
      ap (λ (d : DirEdge). tail (edge_at graph.edges d.edge.0) d.reverse) (opposite_twice by) ∙ tail_is graph facts node by c,
      opposite_twice by,
      ap (λ (d : DirEdge). (hop_of Out rule limits graph d).weight) (opposite_twice by),
    )

here : (rule : Rule) (limits : DirEdge → ℕ) (graph : Graph) → IsGraph graph → (node : ℕ) (by : DirEdge) → Contains (around_of graph node) by
    → (other : Hop) × Contains ((network_by rule limits graph).hops (hop_of Back rule limits graph by).to.0) other × (other.to.0 ≡ node) × (other.by ≡ (hop_of Back rule limits graph by).by) × (other.weight ≡ (hop_of Back rule limits graph by).weight)
here rule limits graph facts node by c =
    let f = hop_of Out rule limits graph in
    let edge = edge_at graph.edges by.edge.0 in (
      f (opposite by),
      subst (λ (n : ℕ). Contains ((network_by rule limits graph).hops n) (f (opposite by))) (sym (tail_of_opposite edge by.reverse))
          (contains_map f (around_of graph (head edge by.reverse)) (opposite by) (opposite_around graph facts node by c)),
      head_of_opposite edge by.reverse ∙ tail_is graph facts node by c,
      refl,
      refl,
    )

pub sides_turn_along_edges : SidesTurnAlongEdges
sides_turn_along_edges rule limits graph facts = record {
  nodes = refl;
  there = λ node hop c some. each_hop Out rule limits graph node
      (λ (h : Hop). (other : Hop) × Contains ((network_back rule limits graph).hops h.to.0) other × (other.to.0 ≡ node) × (other.by ≡ h.by) × (other.weight ≡ h.weight))
      (there rule limits graph facts node) hop c;
  here = λ node hop c some. each_hop Back rule limits graph node
      (λ (h : Hop). (other : Hop) × Contains ((network_by rule limits graph).hops h.to.0) other × (other.to.0 ≡ node) × (other.by ≡ h.by) × (other.weight ≡ h.weight))
      (here rule limits graph facts node) hop c;
}

-- without the edges
without : (network back : Network) → HasEachTurned network back → HasEachBack network back
without network back each node hop c some = let found = each node hop c some in (found.0, found.1, found.2, found.4)

pub sides_are_turned : SidesAreTurned
sides_are_turned rule limits graph facts = let turned = sides_turn_along_edges rule limits graph facts in record {
  nodes = turned.nodes;
  there = without (network_by rule limits graph) (network_back rule limits graph) turned.there;
  here = without (network_back rule limits graph) (network_by rule limits graph) turned.here;
}
