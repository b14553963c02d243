-- What an exploration tells of weights.
use Rattle.std.specs.Prelude.{ℕ, Option, Some, None, length}
use Rattle.search_queue.specs.Keys.{key_at}
use Rattle.alt_search.specs.declared.explored.Explored.{Explored}
use Rattle.alt_search.specs.declared.reach.Reach.{Reach}
use Rattle.alt_search.specs.Progress.{reach_at}

-- the weight that is told of a node: that of its walk, once it is reached and no longer open
abbrev pub told : Option Reach → Option ℕ → Option ℕ
told None key = None
told (Some reach) None = Some reach.weight
told (Some reach) (Some key) = None

abbrev pub weight_in : Explored → ℕ → Option ℕ
weight_in explored node = told (reach_at explored.reached node) (key_at explored.queue node)

-- for how many nodes it was made
abbrev pub nodes_in : Explored → ℕ
nodes_in explored = length explored.reached
