-- A potential of towers at what was passed.
use Rattle.std.specs.Prelude.{ℕ, Option, Some, length}
use Rattle.base_graph.specs.Graphs.{Graph}
use Rattle.turn_graph.specs.declared.state.State.{State}
use Rattle.turn_graph.specs.declared.state.State.TheVariants.{Start, Passed, Target}
use Rattle.turn_graph.specs.Restrictions.{end_of}
use Rattle.turn_graph.specs.States.{state_by}

-- at the start that of the first tower, behind a directed edge that of its end, at the target 0
abbrev pub bound_at : (ℕ → Option ℕ) → Graph → ℕ → State → Option ℕ
bound_at inner graph from Start = inner from
bound_at inner graph from (Passed by) = inner (end_of graph by)
bound_at inner graph from Target = Some 0

abbrev pub bound_by : (ℕ → Option ℕ) → Graph → ℕ → ℕ → Option ℕ
bound_by inner graph from n = bound_at inner graph from (state_by (length graph.edges) n)
