-- The labels of landmarks, and how they are kept: as 16-bit numbers of whole grains.
use Rattle.std.specs.Prelude.{◌≡◌, ℕ, ◌*◌, ◌/◌, ◌^◌, ◌≤◌, ◌==◌, min, if◌then◌else◌, Option, Some, None, List, [], ◌∷◌, All, length, map, slice_index_or}
use Rattle.gh_base.specs.declared.edges.NodeId.{NodeId}
use Rattle.landmark_prep.specs.declared.labels.PackedLabels.{PackedLabels}

-- the labels of a landmark: of each node the distance from the landmark, and the distance to it
pub record Labels : Type 0 where
  pub from : List (Option ℕ)
  pub to : List (Option ℕ)

-- a label as a number of grains, at most 65534; 65535 is none
abbrev pub packed : ℕ → Option ℕ → ℕ
packed grain None = 65535
packed grain (Some label) = min (label / grain) 65534

-- the label that a number of grains stands for
abbrev pub unpacked : ℕ → ℕ → Option ℕ
unpacked grain number = if number == 65535 then None else Some (grain * number)

-- numbers of grains in ms
abbrev pub in_ms : ℕ → Option ℕ → Option ℕ
in_ms grain None = None
in_ms grain (Some grains) = Some (grain * grains)

abbrev pub unpacked_labels : ℕ → PackedLabels → Labels
unpacked_labels grain labels = record { from = map (unpacked grain) labels.from; to = map (unpacked grain) labels.to }

-- for how many nodes there are labels, by the first landmark
abbrev pub packed_nodes : List PackedLabels → ℕ
packed_nodes [] = 0
packed_nodes (labels ∷ rest) = length labels.from

-- a label for each of the nodes, both from the landmark and to it
pub record AreLong (nodes : ℕ) (labels : PackedLabels) : Type 0 where
  pub from : length labels.from ≡ nodes
  pub to : length labels.to ≡ nodes

-- what a preparation can be made of: 1 to 16 landmarks, each with its labels of all nodes, and a grain
pub record AreParts (landmarks : List NodeId) (grain : ℕ) (labels : List PackedLabels) : Type 0 where
  pub some : 1 ≤ length landmarks
  pub few : length landmarks ≤ 16
  pub each : length labels ≡ length landmarks
  pub long : All (AreLong (packed_nodes labels)) labels
  pub nodes : packed_nodes labels ≤ 4294967295
  pub fine : 1 ≤ grain
  pub coarse : grain ≤ 2 ^ 46

-- the labels of the landmark at a place
abbrev pub packed_at : List PackedLabels → ℕ → PackedLabels
packed_at labels place = slice_index_or labels place (record { from = []; to = [] })
