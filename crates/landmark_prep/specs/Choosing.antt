-- Which landmarks serve between two nodes: those that say most (GraphHopper documentation, "Landmarks": active landmarks).
use Rattle.std.specs.Prelude.{◌≡◌, ◌≢◌, ⊤, ℕ, ◌<◌, ◌⊎◌, min, Option, Some, None, List, All, length, Contains, slice_index}

-- the first says more: that there is no way is most
abbrev pub SaysMore : Option ℕ → Option ℕ → Type 0
SaysMore None None = ⊥
SaysMore None (Some y) = ⊤
SaysMore (Some x) None = ⊥
SaysMore (Some x) (Some y) = y < x

-- one comes before another: it says more, or as much with a lower number
abbrev pub Precedes : (ℕ → Option ℕ) → ℕ → ℕ → Type 0
Precedes bound one other = SaysMore (bound one) (bound other) ⊎ ((bound one ≡ bound other) × (one < other))

-- some of so many landmarks, each before those behind it and before all that aren't among them
pub record AreForemost (bound : ℕ → Option ℕ) (count : ℕ) (places : List ℕ) : Type 0 where
  pub within : All (λ place. place < count) places
  pub ordered : (i j : ℕ) → i < j → j < length places → Precedes bound (slice_index places i) (slice_index places j)
  pub others : (i place : ℕ) → i < length places → place < count → (Contains places place → ⊥) → Precedes bound (slice_index places i) place

-- at most four of them
pub record AreActive (bound : ℕ → Option ℕ) (count : ℕ) (places : List ℕ) : Type 0 where
  pub foremost : AreForemost bound count places
  pub size : length places ≡ min count 4

-- the one that comes before all others that aren't among some
pub record IsForemost (bound : ℕ → Option ℕ) (count : ℕ) (places : List ℕ) (place : ℕ) : Type 0 where
  pub within : place < count
  pub fresh : Contains places place → ⊥
  pub first : (other : ℕ) → other < count → (Contains places other → ⊥) → other ≢ place → Precedes bound place other

-- the foremost of those places so far that aren't among some; none where all are
abbrev pub IsBestSoFar : (ℕ → Option ℕ) → List ℕ → ℕ → Option (ℕ × Option ℕ) → Type 0
IsBestSoFar bound places count None = (other : ℕ) → other < count → Contains places other
IsBestSoFar bound places count (Some best) = (best.1 ≡ bound best.0) × IsForemost bound count places best.0
