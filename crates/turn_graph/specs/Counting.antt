-- How a table of restrictions is made: by node, and then by tower.
use Rattle.std.specs.Prelude.{ℤ, Bool, ◌&&◌, cond, Option, Some, None, List, [], ◌∷◌}
use Rattle.std.specs.Ordering.{int_eq}
use Rattle.std.specs.List.{list_any}
use Rattle.gh_base.specs.declared.edges.DirEdge.{DirEdge}
use Rattle.turn_graph.specs.declared.turn.Turn.{Turn}
use Rattle.turn_graph.specs.Restrictions.{way_of}

-- those that stand at a node, or none
abbrev pub turns_in : Option (List Turn) → List Turn
turns_in None = []
turns_in (Some turns) = turns

-- a restriction, if it is over this node
abbrev pub those_at : ℤ → Turn → List Turn
those_at id turn = cond (int_eq id turn.via) (turn ∷ []) []

-- those of a tower's id, if it has one
abbrev pub standing_at : (ℤ → Option (List Turn)) → Option ℤ → List Turn
standing_at rows None = []
standing_at rows (Some id) = turns_in (rows id)

-- whether one of these directed edges is of a way
abbrev pub has_way : List ℤ → ℤ → List DirEdge → Bool
has_way ways way around = list_any (λ by. int_eq (way_of ways by) way) around

-- whether both ways of a restriction have an edge at a tower
abbrev pub counts_by : List ℤ → List DirEdge → Turn → Bool
counts_by ways around turn = has_way ways turn.from around && has_way ways turn.to around
