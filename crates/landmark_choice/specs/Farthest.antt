-- The choice of landmarks: each time the node that is farthest from those chosen (farthest selection, Goldberg and Harrelson 2005, section 6).
use Rattle.std.specs.Prelude.{◌≡◌, ℕ, ◌<◌, ◌≤◌, ◌⊎◌, min, Option, Some, None, MatchOption, List, [], ◌∷◌, length, take, Contains, slice_index, slice_index_or}
use Rattle.gh_base.specs.Networks.{Network}
use Rattle.walk_rules.specs.Walks.{NoWalk, IsLeastWeight, IsAtMostEachWalk}

-- the weight of a least walk from the nearest of some nodes
pub record IsNearAt (network : Network) (sources : List ℕ) (node distance : ℕ) : Type 0 where
  pub source : ℕ
  pub one_of : Contains sources source
  pub walk : IsLeastWeight network source node distance
  pub nearest : (other : ℕ) → Contains sources other → IsAtMostEachWalk network other node distance

-- the distance from the nearest of some nodes; none where no walk leads from any
abbrev pub IsNear : Network → List ℕ → ℕ → Option ℕ → Type 0
IsNear network sources node distance = MatchOption distance ((source : ℕ) → Contains sources source → NoWalk network source node) (λ d. IsNearAt network sources node d)

abbrev pub AreNear : Network → List ℕ → (ℕ → Option ℕ) → Type 0
AreNear network sources distances = (node : ℕ) → IsNear network sources node (distances node)

-- the node that is farthest from the nearest of some nodes, the least of those that are
pub record IsFarthest (network : Network) (sources : List ℕ) (node distance : ℕ) : Type 0 where
  pub at : IsNearAt network sources node distance
  pub greatest : (other d : ℕ) → IsNearAt network sources other d → d ≤ distance
  pub first : (other d : ℕ) → IsNearAt network sources other d → other < node → d < distance

-- the first is the farthest from the start, and each further one from those before it, at a distance above 0
pub record AreFarthest (network : Network) (start : ℕ) (landmarks : List ℕ) : Type 0 where
  pub some : 0 < length landmarks
  pub first_distance : ℕ
  pub first : IsFarthest network (start ∷ []) (slice_index landmarks 0) first_distance
  pub further : (k : ℕ) → 0 < k → k < length landmarks → (d : ℕ) × IsFarthest network (take k landmarks) (slice_index landmarks k) d × (0 < d)

-- the choice ends at the count, or where no node that can be reached is at a distance above 0
pub record IsChoice (network : Network) (start count : ℕ) (landmarks : List ℕ) : Type 0 where
  pub each : AreFarthest network start landmarks
  pub within : length landmarks ≤ count
  pub ends : (length landmarks ≡ count) ⊎ ((node d : ℕ) → IsNearAt network landmarks node d → d ≡ 0)

-- the greatest distance from a node to one that it reaches
pub record IsGreatestDistance (network : Network) (from distance : ℕ) : Type 0 where
  pub node : ℕ
  pub walk : IsLeastWeight network from node distance
  pub greatest : (other d : ℕ) → IsLeastWeight network from other d → d ≤ distance

-- the lesser of two distances, of which either may be none
abbrev pub lesser : Option ℕ → Option ℕ → Option ℕ
lesser (Some x) (Some y) = Some (min x y)
lesser (Some x) None = Some x
lesser None y = y

-- the distance in a list; none past its end
abbrev pub distance_at : List (Option ℕ) → ℕ → Option ℕ
distance_at distances node = slice_index_or distances node None

-- the greatest in a list, the first of those
pub record IsGreatest (distances : List (Option ℕ)) (node distance : ℕ) : Type 0 where
  pub at : distance_at distances node ≡ Some distance
  pub greatest : (other d : ℕ) → distance_at distances other ≡ Some d → d ≤ distance
  pub first : (other d : ℕ) → distance_at distances other ≡ Some d → other < node → d < distance

-- a choice is determined, and one with a lesser count is its front
abbrev pub ChoicesAreFronts : Type 0
ChoicesAreFronts = (network : Network) (start count fewer : ℕ) (landmarks others : List ℕ) → fewer ≤ count →
    IsChoice network start count landmarks → IsChoice network start fewer others → others ≡ take fewer landmarks
