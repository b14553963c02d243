-- What lies behind a node, by labels of landmarks: the bounds on the way to it (Goldberg and Harrelson 2005, sections 3 and 5).
use Rattle.std.specs.Prelude.{ℕ, nat_lt, if◌then◌else◌, Option, Some, List}
use Rattle.landmark_prep.specs.Packing.{Labels}
use Rattle.landmark_prep.specs.Bounds.{bound_by}

-- the greatest of what landmarks say of the way from a start to each node of the network, and 0 at other numbers
abbrev pub behind_of : List Labels → ℕ → ℕ → ℕ → Option ℕ
behind_of active start count node = if nat_lt node count then bound_by active start node else Some 0
