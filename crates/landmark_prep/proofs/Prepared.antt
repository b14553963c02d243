-- What is made is the preparation.
use Rattle.std.specs.Prelude.{slice_index, IfSome}
use Rattle.std.specs.List.{AllZip}
use Rattle.std.proofs.Common.{◌≡◌, ℕ, ◌^◌, ◌<◌, ◌≤◌, All, Option, Some, List, [], ◌∷◌, length, map, take, Contains, zero, suc, refl, sym, subst, ap, ◌∙◌, inl, inr, arith}
use Rattle.std.proofs.lemmas.List.{length-map}
use Rattle.std.proofs.lemmas.List.Elements.{All-nil, All-cons, Contains-append_cases}
use Rattle.std.proofs.Math.Seq.{take-suc}
use Rattle.gh_base.specs.declared.edges.NodeId.{NodeId}
use Rattle.gh_base.specs.Networks.{Network, LeadsToNodes}
use Rattle.walk_rules.proofs.Walking.{walk_within}
use Rattle.landmark_choice.specs.Farthest.{IsNearAt, AreFarthest}
use Rattle.landmark_choice.specs.Parts.{IsLargestPart, SomeHopIsOpen, IsBarred}
use Rattle.landmark_prep.specs.declared.labels.PackedLabels.{PackedLabels}
use Rattle.landmark_prep.specs.declared.making.Placing.{Placing}
use Rattle.landmark_prep.specs.Packing.{unpacked, unpacked_labels, packed_nodes, AreLong, AreParts}
use Rattle.landmark_prep.specs.Preparations.{AreLabelsOf, IsPlacing, IsPrepOf}
use Rattle.landmark_prep.specs.Jobs.{AreRowsOf}

only_one : (s t : ℕ) → Contains (s ∷ []) t → s ≡ t
only_one s t (zero, l, e) = e
only_one s t (suc k, l, e) = absurd (omega arith)

-- walks from nodes end at nodes
near_within : (network : Network) (sources : List ℕ) (node d : ℕ) → LeadsToNodes network → ((source : ℕ) → Contains sources source → source < network.nodes) → IsNearAt network sources node d → node < network.nodes
near_within network sources node d leads within n = walk_within network leads n.walk.hops n.source node (within n.source n.one_of) n.walk.is_least.walk

module _ (network : Network) (start : ℕ) (landmarks : List ℕ) (leads : LeadsToNodes network) (begin : start < network.nodes) (far : AreFarthest network start landmarks) where
  -- one landmark after those before it
  next_within : (k : ℕ) → k < length landmarks → ((source : ℕ) → Contains (take k landmarks) source → source < network.nodes) → slice_index landmarks k < network.nodes
  next_within zero l before = near_within network (start ∷ []) (slice_index landmarks 0) far.first_distance leads (λ source c. subst (λ (s : ℕ). s < network.nodes) (only_one start source c) begin) far.first.at
  next_within (suc k) l before =
      let f = far.further (suc k) (omega arith) l in
      near_within network (take (suc k) landmarks) (slice_index landmarks (suc k)) f.0 leads before f.1.at

  front_within : (k : ℕ) → k ≤ length landmarks → (source : ℕ) → Contains (take k landmarks) source → source < network.nodes
  front_within zero l source c = absurd (omega (arith, c.1))
  front_within (suc k) l source c =
      elim (Contains-append_cases (take k landmarks) (slice_index landmarks k ∷ []) source (subst (λ (xs : List ℕ). Contains xs source) (take-suc landmarks k 0 (omega arith)) c)) [
        | inl h ↦ front_within k (omega arith) source h
        | inr h ↦ subst (λ (s : ℕ). s < network.nodes) (only_one (slice_index landmarks k) source h) (next_within k (omega arith) (front_within k (omega arith)))
      ]

  pub landmark_within : (k : ℕ) → k < length landmarks → slice_index landmarks k < network.nodes
  landmark_within k l = next_within k l (front_within k (omega arith))

pub all_within : (nodes : ℕ) (chosen : List NodeId) → ((k : ℕ) → k < length (map (λ node. node.0) chosen) → slice_index (map (λ node. node.0) chosen) k < nodes) → All (λ landmark. landmark.0 < nodes) chosen
all_within nodes [] w = All-nil (λ (l : NodeId). l.0 < nodes)
all_within nodes (l ∷ chosen) w = All-cons (λ (l : NodeId). l.0 < nodes) l chosen (w 0 (omega arith)) (all_within nodes chosen (λ k h. w (suc k) (omega arith)))

-- rows of grains are labels
pub rows_are_labels : (network : Network) (grain : ℕ) (landmarks : List NodeId) (table : List PackedLabels) → AllZip (AreRowsOf network grain) landmarks table → AllZip (AreLabelsOf network grain) (map (λ landmark. landmark.0) landmarks) (map (unpacked_labels grain) table)
rows_are_labels network grain [] [] z = tt
rows_are_labels network grain [] (t ∷ table) z = absurd z
rows_are_labels network grain (l ∷ landmarks) [] z = absurd z
rows_are_labels network grain (l ∷ landmarks) (t ∷ table) z = (
  record {
    from_each = length-map t.from (unpacked grain) ∙ z.0.from.long;
    to_each = length-map t.to (unpacked grain) ∙ z.0.to.long;
    from_it = z.0.from.labels;
    to_it = z.0.to.labels;
  },
  rows_are_labels network grain landmarks table z.1,
)

-- as many rows as landmarks, each with a number for each node
rows_each : (network : Network) (grain : ℕ) (landmarks : List NodeId) (table : List PackedLabels) → AllZip (AreRowsOf network grain) landmarks table → length table ≡ length landmarks
rows_each network grain [] [] z = refl
rows_each network grain [] (t ∷ table) z = absurd z
rows_each network grain (l ∷ landmarks) [] z = absurd z
rows_each network grain (l ∷ landmarks) (t ∷ table) z = ap suc (rows_each network grain landmarks table z.1)

rows_long : (network : Network) (grain : ℕ) (landmarks : List NodeId) (table : List PackedLabels) → AllZip (AreRowsOf network grain) landmarks table → All (AreLong network.nodes) table
rows_long network grain [] [] z = All-nil (AreLong network.nodes)
rows_long network grain [] (t ∷ table) z = absurd z
rows_long network grain (l ∷ landmarks) [] z = absurd z
rows_long network grain (l ∷ landmarks) (t ∷ table) z = All-cons (AreLong network.nodes) t table (record { from = z.0.from.long; to = z.0.to.long }) (rows_long network grain landmarks table z.1)

rows_nodes : (network : Network) (grain : ℕ) (landmarks : List NodeId) (table : List PackedLabels) → 1 ≤ length landmarks → AllZip (AreRowsOf network grain) landmarks table → (packed_nodes table ≡ network.nodes) × (packed_nodes table ≤ 4294967295)
rows_nodes network grain [] table some z = absurd (omega arith)
rows_nodes network grain (l ∷ landmarks) [] some z = absurd z
rows_nodes network grain (l ∷ landmarks) (t ∷ table) some z = (z.0.from.long, z.0.from.few)

pub parts_made : (network : Network) (grain : ℕ) (landmarks : List NodeId) (table : List PackedLabels) → 1 ≤ length landmarks → length landmarks ≤ 16 → 1 ≤ grain → grain ≤ 2 ^ 46 → AllZip (AreRowsOf network grain) landmarks table → AreParts landmarks grain table
parts_made network grain landmarks table some few fine coarse z =
    let nodes = rows_nodes network grain landmarks table some z in
    record {
      some = some;
      few = few;
      each = rows_each network grain landmarks table z;
      long = subst (λ (n : ℕ). All (AreLong n) table) (sym nodes.0) (rows_long network grain landmarks table z);
      nodes = nodes.1;
      fine = fine;
      coarse = coarse;
    }

-- what is made of a placing and the rows of its landmarks is the preparation
pub prep_made : (network : Network) (count : ℕ) (chosen : List NodeId) (profile grain : ℕ) (snapshot : List ℕ) (table : List PackedLabels) → IsPlacing network count (map (λ node. node.0) chosen) grain → AllZip (AreRowsOf network grain) chosen table → IsPrepOf network count (record { profile = profile; snapshot = snapshot; landmarks = map (λ node. node.0) chosen; grain = grain; labels = map (unpacked_labels grain) table })
prep_made network count chosen profile grain snapshot table placing rows = record {
  placing = placing;
  labels_are = rows_are_labels network grain chosen table rows;
}

-- the landmarks are nodes
pub chosen_within : (network : Network) (start : ℕ) (chosen : List NodeId) → LeadsToNodes network → start < network.nodes → AreFarthest network start (map (λ node. node.0) chosen) → All (λ landmark. landmark.0 < network.nodes) chosen
chosen_within network start chosen leads begin far = all_within network.nodes chosen (landmark_within network start (map (λ node. node.0) chosen) leads begin far)

-- what is said of a part, where there is one
pub part_of : (network : Network) (part : Option NodeId) (start : NodeId) → IfSome part (λ node. IsLargestPart network node.0) → part ≡ Some start → IsLargestPart network start.0
part_of network part start l e = subst (λ (p : Option NodeId). IfSome p (λ node. IsLargestPart network node.0)) e l

-- where there is a part, some hop has a weight
pub open_of : (network : Network) (part : Option NodeId) (start : NodeId) → IfSome part (λ _. SomeHopIsOpen network) → part ≡ Some start → SomeHopIsOpen network
open_of network part start some e = subst (λ (p : Option NodeId). IfSome p (λ _. SomeHopIsOpen network)) e some

-- what is said of a placing, where there is one
pub placing_of : (network : Network) (count : ℕ) (found : Option Placing) (placing : Placing) → IfSome found (λ placing. IsPlacing network count (map (λ node. node.0) placing.landmarks) placing.grain) → found ≡ Some placing → IsPlacing network count (map (λ node. node.0) placing.landmarks) placing.grain
placing_of network count found placing is e = subst (λ (p : Option Placing). IfSome p (λ placing. IsPlacing network count (map (λ node. node.0) placing.landmarks) placing.grain)) e is

-- its grain is coarse enough for 16 bits
pub coarse_of : (found : Option Placing) (placing : Placing) → IfSome found (λ placing. placing.grain ≤ 2 ^ 46) → found ≡ Some placing → placing.grain ≤ 2 ^ 46
coarse_of found placing l e = subst (λ (p : Option Placing). IfSome p (λ placing. placing.grain ≤ 2 ^ 46)) e l

-- where some hop has a weight, not every node is barred
pub open_not_barred : (network : Network) → SomeHopIsOpen network → ((node : ℕ) → node < network.nodes → IsBarred network node) → ⊥
open_not_barred network some barred = barred some.0 some.1 some.2.0 some.2.1 some.2.2
