-- The hops that are wanted, of what is left of a node with the ends of a query.
use Rattle.std.proofs.Common.{◌≡◌, ℕ, ◌+◌, ◌<◌, Bool, Option, Some, None, IfSome, IfNone, List, [], ◌∷◌, drop}
use Rattle.std.proofs.lemmas.Bool.{lt-ltb}
use Rattle.gh_base.specs.declared.edges.Hop.{Hop}
use Rattle.gh_base.specs.Networks.{Network, wanted_from}
use Rattle.gh_base.proofs.Wanted.{wanted_of_first, wanted_of_second}
use Rattle.query_graph.specs.declared.ends.Leave.{Leave}
use Rattle.query_graph.specs.declared.ends.Reach.{Reach}
use Rattle.query_graph.specs.Ends.{ways_in}
use Rattle.query_graph.specs.Joined.{hops_into, joined_left}

module _ (P : ℕ → Bool) (network : Network) (from : Leave) (to : Reach) (direct : List (Option Hop)) (node next passed : ℕ) (left : List Hop) (l : node < network.nodes) (after : Network) (same : after ≡ network) (rest : List Hop) where
  abbrev into : List Hop
  into = hops_into (network.nodes + 1) node (drop next (ways_in to))

  -- the first is the base's, where it has one
  pub first_of_base : (given : Option Hop) → IfSome given (λ hop. wanted_from P left ≡ hop ∷ rest)
      → IfSome given (λ hop. wanted_from P (joined_left network left from to direct node next passed) ≡ hop ∷ joined_left after rest from to direct node next passed)
  first_of_base (Some hop) e = rw (same, lt-ltb node network.nodes l) (wanted_of_first P left into hop rest e)
  first_of_base None e = tt

  -- else it comes after those of the base
  pub none_of_base : (given : Option Hop) → IfNone given (wanted_from P left ≡ []) → IfNone given (rest ≡ [])
      → IfNone given (wanted_from P (joined_left network left from to direct node next passed) ≡ wanted_from P (joined_left after rest from to direct node next passed))
  none_of_base (Some hop) e ended = tt
  none_of_base None e ended = rw (same, ended, lt-ltb node network.nodes l) (wanted_of_second P left into e)
