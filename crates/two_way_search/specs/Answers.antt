-- What a search from both ends answers.
use Rattle.std.specs.Prelude.{◌≡◌, ⊤, ℕ, List, Option, None, ◌⊎◌}
use Rattle.gh_base.specs.declared.edges.Hop.{Hop}
use Rattle.two_way_search.specs.declared.searching.Both.{Both}
use Rattle.two_way_search.specs.declared.searching.Both.TheVariants.{Walk, NoWalk}

-- a fact of the hops and the weight, if there is a walk
abbrev pub IfWalk : Both → (List Hop → ℕ → Type 0) → Type 0
IfWalk (Walk hops weight forward backward) P = P hops weight
IfWalk (NoWalk forward backward) P = ⊤

-- there is none
abbrev pub IsNoWalk : Both → Type 0
IsNoWalk (Walk hops weight forward backward) = ⊥
IsNoWalk (NoWalk forward backward) = ⊤

-- at how many nodes the side of the start was started
abbrev pub forward_of : Both → ℕ
forward_of (Walk hops weight forward backward) = forward
forward_of (NoWalk forward backward) = forward

-- at how many nodes the side of the target was
abbrev pub backward_of : Both → ℕ
backward_of (Walk hops weight forward backward) = backward
backward_of (NoWalk forward backward) = backward

-- nothing is to be searched: both are one node, or a bound shows that no walk leads from the one to the other
abbrev pub NeedsNoSearch : (ℕ → Option ℕ) → (ℕ → Option ℕ) → ℕ → ℕ → Type 0
NeedsNoSearch ahead behind start target = (start ≡ target) ⊎ (ahead start ≡ None) ⊎ (behind target ≡ None)
