-- At how many nodes a search starts: at those that it must look at, and at none that it need not.
use Rattle.std.specs.Prelude.{◌≡◌, ◌≢◌, ⊤, ℕ, ◌+◌, ◌<◌, ◌≤◌, Bool, true, cond, zero, suc, Option, Some, List}
use Rattle.gh_base.specs.declared.edges.Hop.{Hop}
use Rattle.gh_base.specs.Networks.{Network}
use Rattle.walk_rules.specs.Walks.{IsWalk, weight_of}

-- how many of the numbers below n pass the test
abbrev pub count_below : (ℕ → Bool) → ℕ → ℕ
count_below test zero = 0
count_below test (suc n) = cond {A = ℕ} (test n) 1 0 + count_below test n

-- a node other than the target that has a bound and that the start reaches, by a walk whose weight and the bound are together so
pub record IsCandidate (network : Network) (bound : ℕ → Option ℕ) (start target : ℕ) (IsSo : ℕ → Type 0) (node : ℕ) : Type 0 where
  pub other : node ≢ target
  pub hops : List Hop
  pub walk : IsWalk network start hops node
  pub left : ℕ
  pub bound_is : bound node ≡ Some left
  pub sum : IsSo (weight_of hops + left)

-- the number of the nodes that pass a test: each that passes is a candidate that may, and each candidate that must passes
pub record StartsAt (network : Network) (bound : ℕ → Option ℕ) (start target : ℕ) (May Must : ℕ → Type 0) (settled : ℕ) : Type 0 where
  pub passes : ℕ → Bool
  pub count : settled ≡ count_below passes network.nodes
  pub only : (node : ℕ) → passes node ≡ true → IsCandidate network bound start target May node
  pub each : (node : ℕ) → IsCandidate network bound start target Must node → passes node ≡ true

-- for a least weight: at each candidate that comes before the target, and at none that comes behind it
abbrev pub StartsWithin : Network → (ℕ → Option ℕ) → ℕ → ℕ → ℕ → ℕ → Type 0
StartsWithin network bound start target weight settled = StartsAt network bound start target (λ sum. sum ≤ weight) (λ sum. sum < weight) settled

-- where no walk leads to the target: at each candidate
abbrev pub StartsAtAll : Network → (ℕ → Option ℕ) → ℕ → ℕ → ℕ → Type 0
StartsAtAll network bound start target settled = StartsAt network bound start target (λ _. ⊤) (λ _. ⊤) settled

-- whatever the bounds are: at candidates alone, at none twice
abbrev pub StartsOnce : Network → (ℕ → Option ℕ) → ℕ → ℕ → ℕ → Type 0
StartsOnce network bound start target settled = StartsAt network bound start target (λ _. ⊤) (λ _. ⊥) settled
