-- Why a check of evidence refuses it.
use Rattle.std.specs.Prelude.{◌≡◌, ℕ, ◌<◌, Bool, true, false, Some, List, ◌∷◌, ◌++◌, Contains, slice_index_or}
use Rattle.gh_base.specs.declared.edges.Hop.{Hop}
use Rattle.gh_base.specs.Networks.{Network}
use Rattle.walk_rules.specs.Walks.{hops_from}
use Rattle.label_certificate.specs.declared.refuted.Refuted.{Refuted}
use Rattle.label_certificate.specs.declared.refuted.Refuted.TheVariants.{Ends, Violated}

-- whether a set that is kept as a list holds a node; none past its end
abbrev pub is_in : List Bool → ℕ → Bool
is_in set node = slice_index_or set node false

-- a test fails at this hop, and at none before it: by the number of the tail, then in the order of the tail's hops
pub record IsFirst (network : Network) (fails : ℕ → Hop → Bool) (tail : ℕ) (hop : Hop) : Type 0 where
  pub at : fails tail hop ≡ true
  pub before : (node : ℕ) (other : Hop) → node < tail → Contains (hops_from network node) other → fails node other ≡ false
  pub earlier : List Hop
  pub later : List Hop
  pub in_order : hops_from network tail ≡ earlier ++ hop ∷ later
  pub none_earlier : (other : Hop) → Contains earlier other → fails tail other ≡ false

-- the ends aren't right; or they are, and this is the first hop at which the test fails
abbrev pub IsReason : Network → (ℕ → Hop → Bool) → Type 0 → Refuted → Type 0
IsReason network fails AreRight Ends = AreRight → ⊥
IsReason network fails AreRight (Violated edge tail head weight) =
    AreRight × IsFirst network fails tail.0 (record { to = head; by = edge; weight = Some weight })
