use Rattle.std.proofs.Common.{arith}
use Rattle.location_grid.proofs.Orders.{holds_sorted}
use Rattle.location_grid.proofs.order.in_rows.Goals as goal

pub returns-clause-all : goal.returns-clause-all
returns-clause-all c = λ edge there. holds_sorted c.edges.order.items c.sort_unstable_by_key.new.self.items edge c.sort_unstable_by_key.ensures.permutation (c.edges.invariant.1 edge (omega arith))
