-- In which order a store lists the nodes that a landmark reaches.
use Rattle.std.specs.Prelude.{◌≡◌, ⊤, ◌⊎◌, ℕ, ◌*◌, ◌^◌, ◌<◌, ◌≤◌, All, Option, Some, None, List, [], ◌∷◌, ◌++◌, length}
use Rattle.byteorder.specs.Endian.{big_bytes}
use Rattle.gh_base.specs.Networks.{Network}
use Rattle.walk_rules.specs.Distances.{label_at}
use Rattle.landmark_prep.specs.Packing.{Labels}
use Rattle.landmark_prep.specs.Preparations.{Preparation}
use Rattle.traffic_core.specs.Lands.{Land}
use Rattle.prep_store.specs.declared.item.Item.{Item}
use Rattle.prep_store.specs.Evidence.{label_in, IsReached}
use Rattle.prep_store.specs.Stores.{words, Lists, lists_text, head_text, roads_at, back_at}

-- a node that isn't listed, with its label, which a hop from one that is gives it
pub record IsCandidate (network : Network) (grain : ℕ) (labels : ℕ → Option ℕ) (listed : List Item) (item : Item) : Type 0 where
  pub label : labels item.node.0 ≡ Some (grain * item.label)
  pub new : label_in listed item.node.0 ≡ None
  pub reached : IsReached network grain listed item

-- the one of least label, then of least number
pub record IsNext (network : Network) (grain : ℕ) (labels : ℕ → Option ℕ) (listed : List Item) (item : Item) : Type 0 where
  pub candidate : IsCandidate network grain labels listed item
  pub least : (other : Item) → IsCandidate network grain labels listed other →
      (item.label < other.label) ⊎ ((item.label ≡ other.label) × (item.node.0 ≤ other.node.0))

-- again and again the next one, until there is none
abbrev pub AreNext : Network → ℕ → (ℕ → Option ℕ) → List Item → List Item → Type 0
AreNext network grain labels listed [] = (item : Item) → IsCandidate network grain labels listed item → ⊥
AreNext network grain labels listed (item ∷ items) =
    IsNext network grain labels listed item × AreNext network grain labels (listed ++ item ∷ []) items

-- the landmark, and then those
abbrev pub IsListing : Network → ℕ → ℕ → (ℕ → Option ℕ) → List Item → Type 0
IsListing network grain landmark labels [] = ⊥
IsListing network grain landmark labels (first ∷ items) =
    (first.node.0 ≡ landmark) × (first.label ≡ 0) × AreNext network grain labels (first ∷ []) items

-- both lists of a landmark
pub record AreListings (network back : Network) (grain landmark : ℕ) (labels : Labels) (lists : Lists) : Type 0 where
  pub from : IsListing network grain landmark (label_at labels.from) lists.from
  pub to : IsListing back grain landmark (label_at labels.to) lists.to

-- those of each landmark
abbrev pub AreAllListings : Network → Network → ℕ → List ℕ → List Labels → List Lists → Type 0
AreAllListings network back grain [] [] [] = ⊤
AreAllListings network back grain (landmark ∷ landmarks) (labels ∷ table) (lists ∷ rest) =
    AreListings network back grain landmark labels lists × AreAllListings network back grain landmarks table rest
AreAllListings network back grain landmarks table rest = ⊥

abbrev pub store_text : Land → Preparation → List Lists → List ℕ
store_text land prep lists =
    head_text land prep.profile (length prep.landmarks)
    ++ (words prep.snapshot ++ (words prep.landmarks ++ (big_bytes 8 prep.grain ++ lists_text lists)))

-- the bytes that are written of a preparation
pub record IsStoreOf (land : Land) (prep : Preparation) (text : List ℕ) : Type 0 where
  pub lists : List Lists
  pub listings : AreAllListings (roads_at land prep.profile prep.snapshot) (back_at land prep.profile prep.snapshot) prep.grain prep.landmarks prep.labels lists
  pub text_is : text ≡ store_text land prep lists

-- the numbers of a preparation fit their bytes, and it has at most 16 landmarks
pub record FitsBytes (prep : Preparation) : Type 0 where
  pub profile : prep.profile < 2 ^ 32
  pub limits : All (λ limit. limit < 2 ^ 32) prep.snapshot
  pub few : length prep.landmarks ≤ 16
