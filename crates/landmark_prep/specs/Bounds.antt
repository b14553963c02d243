-- What labels of landmarks say of the way that is left (by the triangle inequality: Goldberg and Harrelson 2005, section 3).
use Rattle.std.specs.Prelude.{ℕ, ◌+◌, ◌-◌, ◌^◌, max, nat_lt, if◌then◌else◌, Option, Some, None, List, [], ◌∷◌, All, map, slice_index_or}
use Rattle.std.proofs.Props.{props}
use Rattle.gh_base.specs.declared.edges.Arrival.{Arrival}
use Rattle.gh_base.specs.Networks.{Network}
use Rattle.walk_rules.specs.Distances.{label_at}
use Rattle.walk_rules.specs.Potentials.{FallsAlong, RisesAlong}
use Rattle.label_spread.specs.Cutting.{cut}
use Rattle.landmark_choice.specs.Farthest.{lesser}
use Rattle.query_graph.specs.declared.ends.Reach.{Reach}
use Rattle.query_graph.specs.declared.ends.Reach.TheVariants.{Node, Inside}
use Rattle.query_graph.specs.Ends.{ReachesIn}
use Rattle.landmark_prep.specs.Packing.{Labels}
use Rattle.landmark_prep.specs.Preparations.{Preparation}

-- labels that fit a network: along each hop those from the landmark rise, and those to it fall, by no more than the hop's weight
pub record Fits (network : Network) (labels : Labels) : Type 0 where
  pub rises : RisesAlong network (label_at labels.from)
  pub falls : FallsAlong network (label_at labels.to)

abbrev pub AreFit : Network → Preparation → Type 0
AreFit network prep = All (Fits network) prep.labels

-- how far the second is over the first: 0 where the first isn't there, none where only the second isn't
abbrev pub over : Option ℕ → Option ℕ → Option ℕ
over None second = Some 0
over (Some x) None = None
over (Some x) (Some z) = Some (z - x)

-- the greater of two, none where either is none
abbrev pub greater : Option ℕ → Option ℕ → Option ℕ
greater None second = None
greater (Some x) None = None
greater (Some x) (Some y) = Some (max x y)

-- the sum, where both are there
abbrev pub plus : Option ℕ → Option ℕ → Option ℕ
plus None second = None
plus (Some x) None = None
plus (Some x) (Some y) = Some (x + y)

-- what one landmark says of the way from a node to a target; none where it comes to the node and not to the target, or where the target comes to it and the node doesn't
abbrev pub bound_of : Labels → ℕ → ℕ → Option ℕ
bound_of labels node target =
    greater (over (label_at labels.from node) (label_at labels.from target)) (over (label_at labels.to target) (label_at labels.to node))

-- the greatest of what landmarks say
abbrev pub bound_by : List Labels → ℕ → ℕ → Option ℕ
bound_by [] node target = Some 0
bound_by (labels ∷ rest) node target = greater (bound_of labels node target) (bound_by rest node target)

-- the least, over the pieces into an edge, of the bound to where the piece begins and its weight
abbrev pub bound_into : List Labels → List Arrival → ℕ → Option ℕ
bound_into active [] node = None
bound_into active (arrival ∷ arrivals) node = lesser (plus (bound_by active node arrival.at.0) arrival.weight) (bound_into active arrivals node)

-- the bound to a place, which inside an edge is cut at 2^62
abbrev pub bound_to : List Labels → Reach → ℕ → Option ℕ
bound_to active (Node target) node = bound_by active node target.0
bound_to active (Inside arrivals) node = cut (2 ^ 62) (bound_into active arrivals node)

-- the labels of the landmark at a place
abbrev pub labels_at : List Labels → ℕ → Labels
labels_at labels place = slice_index_or labels place (record { from = []; to = [] })

abbrev pub picked : List Labels → List ℕ → List Labels
picked labels places = map (labels_at labels) places

-- the bound at each node of the network, and 0 at those that a query adds
abbrev pub potential_of : List Labels → Reach → ℕ → ℕ → Option ℕ
potential_of active goal count node = if nat_lt node count then bound_to active goal node else Some 0

-- a goal is within the nodes in one way
pub ReachesIn-prop : (nodes : ℕ) (goal : Reach) → IsProp (ReachesIn nodes goal)
ReachesIn-prop nodes (Node target) = hlevel props
ReachesIn-prop nodes (Inside arrivals) = hlevel props
