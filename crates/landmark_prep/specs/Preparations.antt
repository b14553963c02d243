-- What a preparation is: landmarks of a network, and the distances from them and to them in whole grains (Goldberg and Harrelson 2005, section 3; GraphHopper documentation, "Landmarks").
use Rattle.std.specs.Prelude.{◌≡◌, ℕ, ◌+◌, ◌*◌, ◌/◌, ◌^◌, min, List, [], ◌∷◌, length}
use Rattle.std.specs.List.{AllZip}
use Rattle.gh_base.specs.Networks.{Network}
use Rattle.walk_rules.specs.Distances.{in_grains, AreLabelsFrom, AreLabelsTo, label_at}
use Rattle.landmark_choice.specs.Farthest.{IsChoice, IsGreatestDistance}
use Rattle.landmark_choice.specs.Parts.{IsLargestPart, SomeHopIsOpen}
use Rattle.landmark_prep.specs.Packing.{Labels}

-- a profile, the limits at which it was prepared, and its landmarks with their labels, in grains of so many ms
pub record Preparation : Type 0 where
  pub profile : ℕ
  pub snapshot : List ℕ
  pub landmarks : List ℕ
  pub grain : ℕ
  pub labels : List Labels

-- for how many nodes there are labels, by the first landmark
abbrev pub nodes_of : List Labels → ℕ
nodes_of [] = 0
nodes_of (labels ∷ rest) = length labels.from

-- a grain at which a distance, and twice that, fits 16 bits
abbrev pub grain_of : ℕ → ℕ
grain_of distance = min distance (2 ^ 60) / 32767 + 1

-- the labels of a landmark at a grain: for each node the distances in whole grains, cut at 65534 grains, none where there is no walk
pub record AreLabelsOf (network : Network) (grain landmark : ℕ) (labels : Labels) : Type 0 where
  pub from_each : length labels.from ≡ network.nodes
  pub to_each : length labels.to ≡ network.nodes
  pub from_it : AreLabelsFrom (in_grains grain network) (65534 * grain) landmark (label_at labels.from)
  pub to_it : AreLabelsTo (in_grains grain network) (65534 * grain) landmark (label_at labels.to)

-- where landmarks stand: the farthest rule chooses at most so many in the largest part of a network in which some hop has a weight, and the greatest distance from that part's least node gives the grain
pub record IsPlacing (network : Network) (count : ℕ) (landmarks : List ℕ) (grain : ℕ) : Type 0 where
  pub some : SomeHopIsOpen network
  pub start : ℕ
  pub start_is : IsLargestPart network start
  pub landmarks_are : IsChoice network start count landmarks
  pub far : ℕ
  pub far_is : IsGreatestDistance network start far
  pub grain_is : grain ≡ grain_of far

-- the preparation of a network: its landmarks where they are placed, with their labels
pub record IsPrepOf (network : Network) (count : ℕ) (prep : Preparation) : Type 0 where
  pub placing : IsPlacing network count prep.landmarks prep.grain
  pub labels_are : AllZip (AreLabelsOf network prep.grain) prep.landmarks prep.labels
