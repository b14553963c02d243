-- How many starts there are, between counts.
use Rattle.std.proofs.Common.{◌≡◌, ℕ, ◌<◌, ◌≤◌, Bool, Option, arith}
use Rattle.std.specs.Prelude.{⊤}
use Rattle.gh_base.specs.Networks.{Network}
use Rattle.walk_rules.specs.Starts.{count_below, IsCandidate, StartsAt, StartsWithin, StartsAtAll}
use Rattle.walk_rules.specs.Laws.{Decides}
use Rattle.walk_rules.proofs.Counting.{count_below-more}

-- no fewer than what must pass, no more than what may
pub settled_between : {network : Network} {bound : ℕ → Option ℕ} {start target settled : ℕ} (May Must : ℕ → Type 0) → StartsAt network bound start target May Must settled → (must may : ℕ → Bool) → Decides must (IsCandidate network bound start target Must) → Decides may (IsCandidate network bound start target May) → (count_below must network.nodes ≤ settled) × (settled ≤ count_below may network.nodes)
settled_between {network} May Must s must may p q = (
  omega (arith, s.count, count_below-more must s.passes network.nodes (λ u e. s.each u (p.only u e))),
  omega (arith, s.count, count_below-more s.passes may network.nodes (λ u e. q.each u (s.only u e))),
)

pub starts_between : (network : Network) (bound : ℕ → Option ℕ) (start target weight settled : ℕ) → StartsWithin network bound start target weight settled → (before up_to : ℕ → Bool) → Decides before (IsCandidate network bound start target (λ sum. sum < weight)) → Decides up_to (IsCandidate network bound start target (λ sum. sum ≤ weight)) → (count_below before network.nodes ≤ settled) × (settled ≤ count_below up_to network.nodes)
starts_between network bound start target weight settled s before up_to p q = settled_between (λ sum. sum ≤ weight) (λ sum. sum < weight) s before up_to p q

pub starts_all : (network : Network) (bound : ℕ → Option ℕ) (start target settled : ℕ) → StartsAtAll network bound start target settled → (all : ℕ → Bool) → Decides all (IsCandidate network bound start target (λ _. ⊤)) → settled ≡ count_below all network.nodes
starts_all network bound start target settled s all p = let b = settled_between (λ _. ⊤) (λ _. ⊤) s all all p p in omega arith
