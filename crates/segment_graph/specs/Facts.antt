-- The facts of links have one proof.
use Rattle.std.specs.Prelude.{ℕ, List}
use Rattle.std.proofs.Props.{props}
use Rattle.segment_graph.specs.declared.row.EdgeRow.{EdgeRow}
use Rattle.segment_graph.specs.Rows.{AreLinked}

pub AreLinked-prop : (heads : List ℕ) (rows : List EdgeRow) → IsProp (AreLinked heads rows)
AreLinked-prop heads rows = hlevel props
