-- The jobs of threads, and the rows of labels that they give.
use Rattle.std.specs.Prelude.{◌≡◌, ℕ, ◌*◌, ◌≤◌, List, [], ◌∷◌, Option, Result, Ok, IfOk, length, map}
use Rattle.gh_base.specs.declared.edges.NodeId.{NodeId}
use Rattle.gh_base.specs.declared.faults.NoMemory.{NoMemory}
use Rattle.gh_base.specs.Networks.{Network}
use Rattle.walk_rules.specs.Distances.{in_grains, AreLabelsFrom, AreLabelsTo, label_at}
use Rattle.landmark_prep.specs.declared.labels.PackedLabels.{PackedLabels}
use Rattle.landmark_prep.specs.declared.spreading.Way.{Way}
use Rattle.landmark_prep.specs.declared.spreading.Way.TheVariants.{From, To}
use Rattle.landmark_prep.specs.declared.spreading.Job.{Job}
use Rattle.landmark_prep.specs.Packing.{unpacked}

-- both ways of each landmark
abbrev pub jobs_for : List NodeId → List Job
jobs_for [] = []
jobs_for (landmark ∷ landmarks) = record { landmark = landmark; way = From } ∷ record { landmark = landmark; way = To } ∷ jobs_for landmarks

-- the rows of packed labels, in the order of the jobs
abbrev pub rows_of : List PackedLabels → List (Result (List ℕ) NoMemory)
rows_of [] = []
rows_of (labels ∷ rest) = Ok labels.from ∷ Ok labels.to ∷ rows_of rest

abbrev pub AreLabelsAlong : Way → Network → ℕ → ℕ → (ℕ → Option ℕ) → Type 0
AreLabelsAlong From network limit node labels = AreLabelsFrom network limit node labels
AreLabelsAlong To network limit node labels = AreLabelsTo network limit node labels

-- what a job gives: for each node the number of grains of its label
pub record IsRow (network : Network) (grain : ℕ) (job : Job) (row : List ℕ) : Type 0 where
  pub long : length row ≡ network.nodes
  pub few : length row ≤ 4294967295
  pub labels : AreLabelsAlong job.way (in_grains grain network) (65534 * grain) job.landmark.0 (label_at (map (unpacked grain) row))

-- a job gives its row, where there is memory
abbrev pub Gives : Network → ℕ → Job → Result (List ℕ) NoMemory → Type 0
Gives network grain job row = IfOk row (λ row. IsRow network grain job row)

-- both rows of a landmark
pub record AreRowsOf (network : Network) (grain : ℕ) (landmark : NodeId) (labels : PackedLabels) : Type 0 where
  pub from : IsRow network grain (record { landmark = landmark; way = From }) labels.from
  pub to : IsRow network grain (record { landmark = landmark; way = To }) labels.to
