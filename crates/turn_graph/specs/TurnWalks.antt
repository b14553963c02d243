-- Walks between towers with no banned turn.
use Rattle.std.specs.Prelude.{⊤, ℕ, ◌≤◌, List, [], ◌∷◌}
use Rattle.gh_base.specs.declared.edges.DirEdge.{DirEdge}
use Rattle.gh_base.specs.declared.edges.Hop.{Hop}
use Rattle.gh_base.specs.Networks.{Network}
use Rattle.walk_rules.specs.Walks.{IsWalk, weight_of}
use Rattle.turn_graph.specs.declared.turn.Turn.{Turn}
use Rattle.turn_graph.specs.Restrictions.{Streets, IsBanned}

-- after a directed edge, no turn from one to the next is banned
abbrev pub GoesOnFreely : Streets → List Turn → DirEdge → List Hop → Type 0
GoesOnFreely streets turns a [] = ⊤
GoesOnFreely streets turns a (hop ∷ hops) = (IsBanned streets turns a hop.by → ⊥) × GoesOnFreely streets turns hop.by hops

-- no turn from a hop to the next is banned
abbrev pub HasNoBannedTurn : Streets → List Turn → List Hop → Type 0
HasNoBannedTurn streets turns [] = ⊤
HasNoBannedTurn streets turns (hop ∷ hops) = GoesOnFreely streets turns hop.by hops

-- a walk from tower to tower with no banned turn
pub record IsTurnWalk (network : Network) (streets : Streets) (turns : List Turn) (from : ℕ) (hops : List Hop) (to : ℕ) : Type 0 where
  pub walk : IsWalk network from hops to
  pub free : HasNoBannedTurn streets turns hops

-- no turn walk weighs less than this
abbrev pub IsAtMostEachTurnWalk : Network → Streets → List Turn → ℕ → ℕ → ℕ → Type 0
IsAtMostEachTurnWalk network streets turns from to weight =
    (others : List Hop) → IsTurnWalk network streets turns from others to → weight ≤ weight_of others

-- there is no turn walk
abbrev pub NoTurnWalk : Network → Streets → List Turn → ℕ → ℕ → Type 0
NoTurnWalk network streets turns from to = (hops : List Hop) → IsTurnWalk network streets turns from hops to → ⊥
