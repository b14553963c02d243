use Rattle.std.proofs.Common.{sym, ◌∙◌, ap}
use Rattle.std.proofs.lemmas.List.{get_or_read}
use Rattle.traffic_core.specs.declared.rows.Row.{Row}
use Rattle.traffic_core.specs.Rows.{no_row}
use Rattle.traffic_core.proofs.WithRows.{with_rows-none, with_rows-found}
use Rattle.traffic_core.proofs.rows.ChangedLimits.get.Goals as goal

pub returns-in_err-number : goal.returns-in_err-number
returns-in_err-number c limits within = rw c.from_residual.ensures (with_rows-none limits c.args.self.now.rows c.args.place c.in_err-number.ensures)

pub returns : goal.returns
returns c limits within =
    let found = rw (← c.self.view_is) at c.in_ok-number.ensures in
    let row = get_or_read c.self.inside.rows.items c.in_ok-number.number c.index.result.now found.0 c.index.ensures no_row in
    rw (← c.self.view_is)
    (with_rows-found limits c.self.inside.rows.items c.args.place c.in_ok-number.number found.0 found.1 c.self.invariant.0.once within ∙ ap (λ (r : Row). r.speed) (sym row))
