-- What a search answers.
use Rattle.std.specs.Prelude.{⊤, ℕ, List}
use Rattle.gh_base.specs.declared.edges.Hop.{Hop}
use Rattle.alt_search.specs.declared.finding.Found.{Found}
use Rattle.alt_search.specs.declared.finding.Found.TheVariants.{Walk, NoWalk}

-- a fact of the hops, the weight and the number of starts, if there is a walk
abbrev pub IfWalk : Found → (List Hop → ℕ → ℕ → Type 0) → Type 0
IfWalk (Walk hops weight settled) P = P hops weight settled
IfWalk (NoWalk settled) P = ⊤

-- a fact of the number of starts, if there is none
abbrev pub IfNoWalk : Found → (ℕ → Type 0) → Type 0
IfNoWalk (Walk hops weight settled) P = ⊤
IfNoWalk (NoWalk settled) P = P settled

-- the number of starts
abbrev pub settled_of : Found → ℕ
settled_of (Walk hops weight settled) = settled
settled_of (NoWalk settled) = settled

-- there is none
abbrev pub IsNoWalk : Found → Type 0
IsNoWalk (Walk hops weight settled) = ⊥
IsNoWalk (NoWalk settled) = ⊤
