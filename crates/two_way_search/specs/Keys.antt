-- Keys of nodes in a search from both ends, by the difference of two potentials that face each other (Ikeda and others, "A fast algorithm for finding better routes by AI search techniques", 1994; Goldberg and Harrelson 2005, section 5). Distances are doubled, so that the difference is not halved.
use Rattle.std.specs.Prelude.{◌≡◌, ⊤, ℕ, ◌+◌, ◌*◌, ◌<◌, ◌≤◌, ◌⊎◌, Bool, true, Option, Some, None}
use Rattle.gh_base.specs.Networks.{Network}
use Rattle.walk_rules.specs.Walks.{IsLeastWeight, NoWalk}
use Rattle.walk_rules.specs.Starts.{count_below}

-- the key of a node from an end: twice its distance from there, and the difference of its two bounds less that of the end's; what is taken away stands on the other side
pub record IsKey (network : Network) (ahead behind : ℕ → Option ℕ) (end node key : ℕ) : Type 0 where
  pub distance : ℕ
  pub distance_is : IsLeastWeight network end node distance
  pub left : ℕ
  pub left_is : ahead node ≡ Some left
  pub passed : ℕ
  pub passed_is : behind node ≡ Some passed
  pub end_left : ℕ
  pub end_left_is : ahead end ≡ Some end_left
  pub end_passed : ℕ
  pub end_passed_is : behind end ≡ Some end_passed
  pub key_is : key + end_left + passed ≡ 2 * distance + left + end_passed

-- a number is below a limit, which is a number or, where there is none, over every number
abbrev pub IsBelow : ℕ → Option ℕ → Type 0
IsBelow key None = ⊤
IsBelow key (Some limit) = key < limit

-- two limits are together no less than a total
abbrev pub AddUpTo : ℕ → Option ℕ → Option ℕ → Type 0
AddUpTo total None second = ⊤
AddUpTo total (Some first) None = ⊤
AddUpTo total (Some first) (Some second) = total ≤ first + second

-- one side was started at so many nodes, none of them twice: each has a key, and each whose key is below a limit is among them
pub record StartsOnSide (network : Network) (ahead behind : ℕ → Option ℕ) (end : ℕ) (started : ℕ → Bool) (count : ℕ) (limit : Option ℕ) : Type 0 where
  pub count_is : count ≡ count_below started network.nodes
  pub only : (node : ℕ) → started node ≡ true → (key : ℕ) × IsKey network ahead behind end node key
  pub each : (node key : ℕ) → IsKey network ahead behind end node key → IsBelow key limit → started node ≡ true

-- Both sides were. A least walk's total is the target's key from the start: the keys of a node at which the one side was started and of one at which the other was are together no more, and the limits no less. Where there is no walk, one side was started at each node that has a key.
pub record StartsOnBothSides (out back : Network) (ahead behind : ℕ → Option ℕ) (start target forward backward : ℕ) : Type 0 where
  pub first : ℕ → Bool
  pub second : ℕ → Bool
  pub limit : Option ℕ
  pub other_limit : Option ℕ
  pub from_start : StartsOnSide out ahead behind start first forward limit
  pub from_target : StartsOnSide back behind ahead target second backward other_limit
  pub far : (total : ℕ) → IsKey out ahead behind start target total → AddUpTo total limit other_limit
  pub all : NoWalk out start target → (limit ≡ None) ⊎ (other_limit ≡ None)
  pub near : (total u v key other : ℕ) → IsKey out ahead behind start target total → first u ≡ true → second v ≡ true →
      IsKey out ahead behind start u key → IsKey back behind ahead target v other → key + other ≤ total
