-- What was found stays no farther than the edges settled.
use Rattle.std.proofs.Common.{◌≡◌, ℕ, ◌<◌, Bool, true, false, Option, None, inl, inr, arith, length}
use Rattle.std.proofs.lemmas.Bool.{cases_order, cases_lt, cases_Bool}
use Rattle.gh_base.specs.declared.map.Point.{Point}
use Rattle.geo_math.specs.declared.foot.Snap.{Snap}
use Rattle.base_graph.specs.Graphs.{Graph, points_of}
use Rattle.location_grid.specs.Snaps.{IsSnap}
use Rattle.location_grid.specs.Nearest.{IsNoNearer}
use Rattle.location_grid.specs.Founds.{IsLess, IsSettled}
use Rattle.location_grid.specs.declared.found.Found.{Found}

-- what is nearer than something no farther is no farther
pub less_than : (graph : Graph) (p : Point) (edge : ℕ) (a b : Found) → IsLess a b → IsNoNearer graph p edge b.snap.dist2 b.edge.0 → IsNoNearer graph p edge a.snap.dist2 a.edge.0
less_than graph p edge a b less far = elim less [
  | inl l ↦ record { least = λ k h. let f = far.least k h in omega arith; first = λ lt k h. let f = far.least k h in omega arith }
  | inr q ↦ record { least = λ k h. let f = far.least k h in omega arith; first = λ lt k h. let f = far.first (omega arith) k h in omega arith }
]

-- a snap is no farther than its own edge
pub own : (graph : Graph) (p : Point) (edge : ℕ) (snap : Snap) → IsSnap p (points_of graph edge) snap → IsNoNearer graph p edge snap.dist2 edge
own graph p edge snap is = record { least = is.least; first = λ lt k h. absurd (omega arith) }

-- what an edge's snap doesn't come before is no farther than the edge
pub not_less : (graph : Graph) (p : Point) (a b : Found) → (IsLess a b → ⊥) → IsSnap p (points_of graph a.edge.0) a.snap → IsNoNearer graph p a.edge.0 b.snap.dist2 b.edge.0
not_less graph p a b isnt is = record {
  least = λ k h. let l = is.least k h in elim (cases_lt a.snap.dist2 b.snap.dist2) [ inl near ↦ absurd (isnt (inl near)) | inr far ↦ omega arith ];
  first = λ lt k h. let l = is.least k h in elim (cases_order a.snap.dist2 b.snap.dist2) [
    | inl same ↦ absurd (isnt (inr (same, lt)))
    | inr q ↦ elim q [ inl near ↦ absurd (isnt (inl near)) | inr far ↦ omega arith ]
  ];
}

-- an edge that the set doesn't have is settled
pub not_had : (graph : Graph) (p : Point) (set : ℕ → Bool) (edge : ℕ) (found : Option Found) → set edge ≡ false → IsSettled graph p set edge found
not_had graph p set edge found lacks = λ has. let had = has.has in absurd (let e : true ≡ false = cc in cc)

-- where the settled edge of a set has nothing found before it, the set doesn't have it
pub none_had : (graph : Graph) (p : Point) (set : ℕ → Bool) (edge : ℕ) → edge < length graph.edges → IsSettled graph p set edge None → set edge ≡ false
none_had graph p set edge there settled = elim (cases_Bool (set edge)) [
  | inl had ↦ absurd (settled (record { there = there; has = had }))
  | inr lacks ↦ lacks
]
