-- Groups of numbers, in a list of what stands above each (disjoint-set forests: Cormen, Leiserson, Rivest and Stein, "Introduction to Algorithms", section 19.3).
use Rattle.std.specs.Prelude.{◌≡◌, ℕ, ◌<◌, ◌≤◌, ◌==◌, ◌⊎◌, min, max, if◌then◌else◌, List, length, Contains, IsSome, slice_index}
use Rattle.gh_base.specs.declared.edges.Hop.{Hop}
use Rattle.gh_base.specs.Networks.{Network}
use Rattle.walk_rules.specs.Starts.{count_below}
use Rattle.landmark_choice.specs.Parts.{AreInOnePart}

-- nothing has a greater one above it
abbrev pub IsForest : List ℕ → Type 0
IsForest above = (one : ℕ) → one < length above → slice_index above one ≤ one

-- each group's least member leads it, and is the one that has itself above it
pub record Leads (above : List ℕ) (leader : ℕ → ℕ) : Type 0 where
  pub down : (one : ℕ) → one < length above → slice_index above one ≤ one
  pub same : (one : ℕ) → one < length above → leader (slice_index above one) ≡ leader one
  pub root : (one : ℕ) → one < length above → slice_index above one ≡ one → leader one ≡ one
  pub below : (one : ℕ) → one < length above → leader one ≤ one
  pub own : (one : ℕ) → one < length above → leader (leader one) ≡ leader one

-- two groups become one, which the lesser of the two leads
abbrev pub merged : (ℕ → ℕ) → ℕ → ℕ → ℕ → ℕ
merged leader first second one = if leader one == max first second then min first second else leader one

-- groups within parts, in which each open hop so far joins its ends: those of the nodes before one, and of that node's but for those that are left
pub record AreGrouped (network : Network) (above : List ℕ) (node : ℕ) (left : List Hop) : Type 0 where
  pub leader : ℕ → ℕ
  pub leads : Leads above leader
  pub long : length above ≡ network.nodes
  pub one_part : (one : ℕ) → one < network.nodes → AreInOnePart network one (leader one)
  pub before : (one : ℕ) (hop : Hop) → one < node → Contains (network.hops one) hop → IsSome hop.weight → leader one ≡ leader hop.to.0
  pub here : (hop : Hop) → Contains (network.hops node) hop → IsSome hop.weight → Contains left hop ⊎ (leader node ≡ leader hop.to.0)
  pub later : (hop : Hop) → Contains left hop → Contains (network.hops node) hop

-- of each number how many it leads, among those below n
abbrev pub AreSizes : (ℕ → ℕ) → ℕ → List ℕ → Type 0
AreSizes leader n sizes = (one : ℕ) → one < length sizes → slice_index sizes one ≡ count_below (λ member. leader member == one) n
