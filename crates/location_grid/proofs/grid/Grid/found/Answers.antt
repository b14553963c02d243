use Rattle.std.proofs.Common.{◌≡◌, ◌/◌, ◌*◌, inl, inr, ap, sym, subst, ◌∙◌, All, arith}
use Rattle.std.proofs.lemmas.Bool.{cases_lt}
use Rattle.std.proofs.lemmas.List.{get_or_default}
use Rattle.base_graph.specs.Graphs.{points_of}
use Rattle.location_grid.specs.Boxes.{IsIn}
use Rattle.location_grid.specs.declared.bounds.Bounds.{Bounds}
use Rattle.location_grid.specs.Grids.{box_at, edge_in}
use Rattle.location_grid.proofs.Orders.{past_settled, place_with}
use Rattle.location_grid.proofs.grid.Grid.found.Goals as goal
use Rattle.location_grid.proofs.grid.Grid.found.Goals.{then-not-is_past, else-not-is_past}

pub cells-preserved : goal.cells-preserved
cells-preserved g c = elim c.if-not-is_past.branch [
  | then-not-is_past w ↦
      let more = w.nearer_from-found-then-not-is_past.ensures in
      rw w.found-is (
        more.found,
        λ place h there. elim (cases_lt place (32 * c.cells.cell)) [
          | inl early ↦ more.kept _ (c.cells.invariant.1 place early there)
          | inr late ↦ more.settled place (omega arith) (omega arith) there
        ],
      )
  | else-not-is_past w ↦
      rw w.found-is (
        c.cells.invariant.0,
        λ place h there. elim (cases_lt place (32 * c.cells.cell)) [
          | inl early ↦ c.cells.invariant.1 place early there
          | inr late ↦
              let cell : place / 32 ≡ c.cells.cell = omega arith in
              let boxes = c.args.self.now.boxes.items in
              let box : box_at boxes (place / 32) ≡ c.index.result.now =
              ap (box_at boxes) cell ∙ sym (c.index.ensures ∙ get_or_default boxes c.cells.cell c.index.result.now _ (omega arith))
              in
              let inside = subst (λ (bounds : Bounds). All (IsIn bounds) (points_of c.args.graph.now.lists (edge_in c.args.self.now.order.items place))) box (c.requires.grid.round place there) in
              past_settled c.args.graph.now.lists c.args.point (g.U.EdgeSet.has_edge c.args.usable.now) c.index.result.now (edge_in c.args.self.now.order.items place) c.cells.found inside (c.is_past.ensures w.if-not-is_past.false)
        ],
      )
]

pub returns-clause-settled : goal.returns-clause-settled
returns-clause-settled g c = λ edge there.
    let at = place_with c.args.self.now.order.items edge (c.requires.grid.holds_all edge there) in
    let within = at.1 in
    let enough = c.requires.grid.enough in
    let settled = c.cells.invariant.1 at.0 (omega arith) within in
    rw at.2 at settled
