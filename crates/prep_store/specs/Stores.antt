-- A stored preparation: its bytes. All numbers are big-endian.
--
--     "GHPREP01" profile towers edges landmarks | two limits an edge | landmark nodes | grain | lists
--
-- with four bytes a number, eight for the grain. For each landmark there is a list from it and then a list to it: the
-- number of its items, and the items, each a node in four bytes and a label in grains in two.
use Rattle.std.specs.Prelude.{◌≡◌, ℕ, ◌*◌, ◌^◌, ◌<◌, ◌≤◌, List, [], ◌∷◌, ◌++◌, All, length, codes}
use Rattle.std.specs.List.{AllZip}
use Rattle.byteorder.specs.Endian.{big_bytes}
use Rattle.gh_base.specs.Networks.{Network}
use Rattle.weighting.specs.Roads.{network_back}
use Rattle.weighting.specs.Profiles.{profile_at}
use Rattle.landmark_prep.specs.Packing.{Labels}
use Rattle.landmark_prep.specs.Preparations.{Preparation, IsPlacing}
use Rattle.traffic_core.specs.Lands.{Land, rule_alone}
use Rattle.traffic_core.specs.History.{limit_in}
use Rattle.traffic_core.specs.Truth.{network_at}
use Rattle.prep_store.specs.declared.item.Item.{Item}
use Rattle.prep_store.specs.Evidence.{IsEvidence, AreListed}

-- how a store begins
abbrev pub magic : List ℕ
magic = codes "GHPREP01"

abbrev pub words : List ℕ → List ℕ
words [] = []
words (n ∷ ns) = big_bytes 4 n ++ words ns

abbrev pub item_text : Item → List ℕ
item_text item = big_bytes 4 item.node.0 ++ big_bytes 2 item.label

abbrev pub items_text : List Item → List ℕ
items_text [] = []
items_text (item ∷ items) = item_text item ++ items_text items

abbrev pub list_text : List Item → List ℕ
list_text items = big_bytes 4 (length items) ++ items_text items

-- the lists of a landmark: from it, and to it
pub record Lists : Type 0 where
  pub from : List Item
  pub to : List Item

abbrev pub lists_text : List Lists → List ℕ
lists_text [] = []
lists_text (lists ∷ rest) = list_text lists.from ++ (list_text lists.to ++ lists_text rest)

-- the head: a profile, the sizes of the roads, and a number of landmarks
abbrev pub head_text : Land → ℕ → ℕ → List ℕ
head_text land profile count =
    magic ++ (big_bytes 4 profile ++ (big_bytes 4 (length land.graph.places) ++ (big_bytes 4 (length land.graph.edges) ++ big_bytes 4 count)))

-- the roads as a profile alone weighs them at limits, turned round
abbrev pub back_at : Land → ℕ → List ℕ → Network
back_at land profile snapshot = network_back (rule_alone (profile_at land.profiles profile)) (limit_in snapshot) land.graph

abbrev pub roads_at : Land → ℕ → List ℕ → Network
roads_at land profile snapshot = network_at land profile (limit_in snapshot)

-- the bytes begin with a right head
pub record HasHead (land : Land) (bytes : List ℕ) (profile count : ℕ) (rest : List ℕ) : Type 0 where
  pub bytes_are : bytes ≡ head_text land profile count ++ rest
  pub there : profile < length land.profiles
  pub word : profile < 2 ^ 32
  pub some : 1 ≤ count
  pub few : count ≤ 16

-- and a limit for each directed edge
pub record HasLimits (land : Land) (bytes : List ℕ) (profile count : ℕ) (snapshot rest : List ℕ) : Type 0 where
  pub head : HasHead land bytes profile count (words snapshot ++ rest)
  pub long : length snapshot ≡ 2 * length land.graph.edges
  pub each : All (λ limit. limit < 2 ^ 32) snapshot

-- and as many landmarks as were said, which stand where they are placed, as the grain of that is
pub record HasLandmarks (land : Land) (bytes : List ℕ) (profile : ℕ) (snapshot landmarks : List ℕ) (grain : ℕ) (rest : List ℕ) : Type 0 where
  pub limits : HasLimits land bytes profile (length landmarks) snapshot (words landmarks ++ rest)
  pub placing : IsPlacing (roads_at land profile snapshot) (length landmarks) landmarks grain

-- both lists of a landmark are evidence
pub record AreEvidence (network back : Network) (grain landmark : ℕ) (lists : Lists) : Type 0 where
  pub from : IsEvidence network grain landmark lists.from
  pub to : IsEvidence back grain landmark lists.to

-- the labels of a landmark are those of its lists
pub record AreOfLists (nodes grain : ℕ) (lists : Lists) (labels : Labels) : Type 0 where
  pub from : AreListed nodes grain lists.from labels.from
  pub to : AreListed nodes grain lists.to labels.to

-- the bytes are a preparation's, with these lists
pub record IsStoredBy (land : Land) (prep : Preparation) (lists : List Lists) (bytes : List ℕ) : Type 0 where
  pub landmarks : HasLandmarks land bytes prep.profile prep.snapshot prep.landmarks prep.grain (big_bytes 8 prep.grain ++ lists_text lists)
  pub evidence : AllZip (AreEvidence (roads_at land prep.profile prep.snapshot) (back_at land prep.profile prep.snapshot) prep.grain) prep.landmarks lists
  pub labels : AllZip (AreOfLists (length land.graph.places) prep.grain) lists prep.labels

-- the bytes are stored for a preparation
abbrev pub IsStored : Land → Preparation → List ℕ → Type 0
IsStored land prep bytes = (lists : List Lists) × IsStoredBy land prep lists bytes
