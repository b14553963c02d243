use Rattle.std.proofs.Common.{ℕ, sym, ◌∙◌, ap}
use Rattle.std.specs.Prelude.{slice_set}
use Rattle.std.proofs.lemmas.List.{get_or_read}
use Rattle.traffic_core.specs.declared.rows.Row.{Row}
use Rattle.traffic_core.specs.Rows.{no_row, with_rows}
use Rattle.traffic_core.proofs.WithRows.{with_rows-change}
use Rattle.traffic_core.proofs.LinkedRows.{linked_changed}
use Rattle.traffic_core.proofs.rows.ChangedLimits.set.Goals as goal

pub invariant_of-self : goal.invariant_of-self
invariant_of-self c =
    let found = rw (← c.self.view_is) at c.in-Some.ensures in
    let row = get_or_read c.self.inside.rows.items c.in-Some.number c.index-row.result.now found.0 c.index-row.ensures no_row in (
      linked_changed c.self.inside.heads.items c.self.inside.rows.items c.in-Some.number _ found.0 (ap (λ (r : Row). r.place) (sym row)) (ap (λ (r : Row). r.next) (sym row)) c.self.invariant.0,
      c.self.invariant.1,
    )

pub returns-in-Some-clause-limits : goal.returns-in-Some-clause-limits
returns-in-Some-clause-limits c limits =
    let found = rw (← c.self.view_is) at c.in-Some.ensures in
    let row = get_or_read c.self.inside.rows.items c.in-Some.number c.index-row.result.now found.0 c.index-row.ensures no_row in
    rw (← c.self.view_is)
    (with_rows-change limits c.self.inside.rows.items c.in-Some.number _ found.0 (ap (λ (r : Row). r.place) (sym row)) c.self.invariant.0.once
    ∙ ap (λ (place : ℕ). slice_set (with_rows limits c.self.inside.rows.items) place c.args.speed) (ap (λ (r : Row). r.place) row ∙ found.1))
