-- What stands in the order of a grid.
use Rattle.std.proofs.Common.{◌≡◌, ℕ, suc, ◌+◌, ◌*◌, ◌/◌, ◌<◌, ◌≤◌, ◌==◌, Bool, true, false, ◌||◌, List, [], ◌∷◌, ◌++◌, length, All, Option, Some, None, arith, refl, inl, inr, below_more, ◌∙◌, sym, subst}
use Rattle.std.specs.List.{list_any}
use Rattle.std.specs.List.Sorted.{IsPermutation}
use Rattle.std.proofs.lemmas.Bool.{cases_Bool, cases_lt, eqb-true, eq-eqb}
use Rattle.std.proofs.lemmas.List.{get_or_append_left}
use Rattle.std.proofs.lemmas.List.Folds.{list_any-append}
use Rattle.std.proofs.lemmas.List.Sorted.{list_any-IsPermutation}
use Rattle.std.proofs.Math.Seq.{get_or-append_seam}
use Rattle.gh_base.specs.declared.map.Point.{Point}
use Rattle.base_graph.specs.Graphs.{Graph, points_of}
use Rattle.location_grid.specs.Boxes.{IsIn, IsPast}
use Rattle.location_grid.specs.Founds.{IsSettled}
use Rattle.location_grid.specs.Grids.{box_at, edge_in, holds}
use Rattle.location_grid.specs.declared.bounds.Bounds.{Bounds}
use Rattle.location_grid.specs.declared.found.Found.{Found}
use Rattle.location_grid.specs.declared.order.Placed.{Placed}
use Rattle.location_grid.proofs.Boxes.{box_past}

-- an edge that an order has stands at a place
pub place_with : (order : List Placed) (edge : ℕ) → holds order edge ≡ true → (place : ℕ) × (place < length order) × (edge_in order place ≡ edge)
place_with [] edge h = absurd (let f : false ≡ true = h in cc)
place_with (x ∷ order) edge h = elim (cases_Bool (x.edge.0 == edge)) [
  | inl same ↦ (0, omega arith, eqb-true x.edge.0 edge same)
  | inr other ↦
      let later : holds order edge ≡ true = rw other at h in
      let found = place_with order edge later in
      let there = found.1 in
      (suc found.0, omega arith, found.2)
]

true_or : (b : Bool) → (b || true) ≡ true
true_or true = refl
true_or false = refl

-- one more edge
pub holds_more : (order : List Placed) (x : Placed) (number : ℕ) → x.edge.0 ≡ number → ((edge : ℕ) → edge < number → holds order edge ≡ true) → (edge : ℕ) → edge < number + 1 → holds (order ++ x ∷ []) edge ≡ true
holds_more order x number is all = below_more _ _
    (λ edge h. list_any-append (λ (placed : Placed). placed.edge.0 == edge) order (x ∷ []) ∙ rw (all edge h) refl)
    (list_any-append (λ (placed : Placed). placed.edge.0 == number) order (x ∷ []) ∙ rw (eq-eqb x.edge.0 number is) (true_or (list_any (λ (placed : Placed). placed.edge.0 == number) order)))

-- sorted, they are the same
pub holds_sorted : (order sorted : List Placed) (edge : ℕ) → IsPermutation order sorted → holds order edge ≡ true → holds sorted edge ≡ true
holds_sorted order sorted edge moves h = sym (list_any-IsPermutation (λ (placed : Placed). placed.edge.0 == edge) order sorted moves) ∙ h

-- an edge in a box that is farther than what was found is settled
pub past_settled : (graph : Graph) (p : Point) (set : ℕ → Bool) (bounds : Bounds) (edge : ℕ) (found : Option Found) → All (IsIn bounds) (points_of graph edge) → IsPast p bounds found → IsSettled graph p set edge found
past_settled graph p set bounds edge None inside past = absurd past
past_settled graph p set bounds edge (Some found) inside past = λ has. box_past graph p bounds edge found inside past

-- the places of one more cell
pub cell_of : (cell place : ℕ) → 32 * cell ≤ place → place < 32 * (cell + 1) → place / 32 ≡ cell
cell_of cell place from to = omega arith

-- boxes with one more, round the next cell
pub round_more : (graph : Graph) (order : List Placed) (boxes : List Bounds) (cell : ℕ) (bounds : Bounds) → length boxes ≡ cell
    → ((place : ℕ) → place < 32 * cell → place < length order → All (IsIn (box_at boxes (place / 32))) (points_of graph (edge_in order place)))
    → ((place : ℕ) → cell * 32 ≤ place → place < cell * 32 + 32 → place < length order → All (IsIn bounds) (points_of graph (edge_in order place)))
    → (place : ℕ) → place < 32 * (cell + 1) → place < length order → All (IsIn (box_at (boxes ++ bounds ∷ []) (place / 32))) (points_of graph (edge_in order place))
round_more graph order boxes cell bounds count before here place h there = elim (cases_lt place (32 * cell)) [
  | inl early ↦
      let low : place / 32 < length boxes = omega arith in
      rw (get_or_append_left boxes (bounds ∷ []) _ (place / 32) low) (before place early there)
  | inr late ↦
      let at : place / 32 ≡ length boxes = omega arith in
      rw (at, get_or-append_seam boxes bounds [] _) (here place (omega arith) (omega arith) there)
]

-- a wider box, round one more
pub widened_more : (graph : Graph) (order : List Placed) (first place : ℕ) (bounds wider : Bounds)
    → ((q : ℕ) → first ≤ q → q < place → All (IsIn bounds) (points_of graph (edge_in order q))) → ((other : Point) → IsIn bounds other → IsIn wider other)
    → All (IsIn wider) (points_of graph (edge_in order place)) → (q : ℕ) → first ≤ q → q < place + 1 → All (IsIn wider) (points_of graph (edge_in order q))
widened_more graph order first place bounds wider before kept here q from to = elim (cases_lt q place) [
  | inl early ↦ λ k d h. kept _ (before q from early k d h)
  | inr late ↦ let same : place ≡ q = omega arith in subst (λ (n : ℕ). All (IsIn wider) (points_of graph (edge_in order n))) same here
]
