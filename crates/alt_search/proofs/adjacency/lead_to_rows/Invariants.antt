use Rattle.std.proofs.Common.{◌<◌, ℕ, Contains}
use Rattle.gh_base.specs.declared.edges.Hop.{Hop}
use Rattle.alt_search.specs.Rows.{network_in}
use Rattle.alt_search.proofs.adjacency.lead_to_rows.Given as goal

-- the hops of the rows so far lead to rows
abbrev pub invariant-loop-row : goal.invariant-loop-row
invariant-loop-row l = (node : ℕ) → node < l.row-index → (hop : Hop) → Contains ((network_in l.rows).hops node) hop → hop.to.0 < l.count
