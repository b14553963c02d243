-- Why bytes are no store: the first fault, in the order of the bytes. Each number and each item is judged as soon as it is
-- there whole, and before the next; a list is judged whole before what follows it.
use Rattle.std.specs.Prelude.{◌≡◌, ◌⊎◌, ℕ, ◌*◌, ◌^◌, ◌<◌, ◌≤◌, Bool, true, false, List, [], ◌∷◌, ◌++◌, length, slice_get, Some}
use Rattle.std.specs.List.{AllZip}
use Rattle.byteorder.specs.Endian.{big_bytes}
use Rattle.gh_base.specs.declared.edges.DirEdge.{DirEdge}
use Rattle.gh_base.specs.Networks.{Network}
use Rattle.landmark_prep.specs.Preparations.{Preparation, IsPlacing}
use Rattle.traffic_core.specs.Lands.{Land}
use Rattle.prep_store.specs.declared.fault.PrepFault.{PrepFault}
use Rattle.prep_store.specs.declared.fault.PrepFault.TheVariants as faults
use Rattle.prep_store.specs.declared.item.Item.{Item}
use Rattle.prep_store.specs.declared.item.Which.{Which}
use Rattle.prep_store.specs.Evidence.{MayFollow, MayAllFollow, IsEvidence, IsFirstOpen}
use Rattle.prep_store.specs.Stores.{magic, words, item_text, items_text, list_text, Lists, lists_text, roads_at, back_at, HasHead, HasLimits, HasLandmarks, AreEvidence, IsStored}

-- whether a fault speaks of the bytes: not of a failed call, nor of memory
abbrev pub is_of_bytes : PrepFault → Bool
is_of_bytes faults.ReadFault = false
is_of_bytes faults.NoMemory = false
is_of_bytes fault = true

-- the bytes begin with a text, and what follows it is so
abbrev pub Behind : List ℕ → List ℕ → (List ℕ → Type 0) → Type 0
Behind front bytes IsSo = (rest : List ℕ) × (bytes ≡ front ++ rest) × IsSo rest

-- the end, after so many bytes in all, cuts what takes some
pub record IsCut (size total : ℕ) (rest : List ℕ) (fault : PrepFault) : Type 0 where
  pub short : length rest < size
  pub is : fault ≡ faults.Short total

-- it begins otherwise
pub record IsNoStore (bytes : List ℕ) (fault : PrepFault) : Type 0 where
  pub whole : 8 ≤ length bytes
  pub other : (rest : List ℕ) → bytes ≡ magic ++ rest → ⊥
  pub is : fault ≡ faults.Magic

-- a number that is no profile's
pub record IsNoProfile (land : Land) (rest : List ℕ) (fault : PrepFault) : Type 0 where
  pub profile : ℕ
  pub after : List ℕ
  pub bytes : rest ≡ big_bytes 4 profile ++ after
  pub word : profile < 2 ^ 32
  pub none : length land.profiles ≤ profile
  pub is : fault ≡ faults.Profile profile

-- two numbers that aren't those of the towers and of the edges
pub record AreOtherSizes (land : Land) (rest : List ℕ) (fault : PrepFault) : Type 0 where
  pub towers : ℕ
  pub edges : ℕ
  pub after : List ℕ
  pub bytes : rest ≡ big_bytes 4 towers ++ (big_bytes 4 edges ++ after)
  pub word : towers < 2 ^ 32
  pub word_too : edges < 2 ^ 32
  pub other : towers ≡ length land.graph.places → edges ≡ length land.graph.edges → ⊥
  pub is : fault ≡ faults.Sizes towers edges

-- a number of landmarks that isn't 1 to 16
pub record IsNoCount (rest : List ℕ) (fault : PrepFault) : Type 0 where
  pub count : ℕ
  pub after : List ℕ
  pub bytes : rest ≡ big_bytes 4 count ++ after
  pub word : count < 2 ^ 32
  pub bad : (count ≡ 0) ⊎ (16 < count)
  pub is : fault ≡ faults.Count count

abbrev pub FailsInMagic : ℕ → List ℕ → PrepFault → Type 0
FailsInMagic total bytes fault = IsCut 8 total bytes fault ⊎ IsNoStore bytes fault

abbrev pub FailsInProfile : Land → ℕ → List ℕ → PrepFault → Type 0
FailsInProfile land total rest fault = IsCut 4 total rest fault ⊎ IsNoProfile land rest fault

abbrev pub FailsInSizes : Land → ℕ → List ℕ → PrepFault → Type 0
FailsInSizes land total rest fault = IsCut 8 total rest fault ⊎ AreOtherSizes land rest fault

abbrev pub FailsInCount : ℕ → List ℕ → PrepFault → Type 0
FailsInCount total rest fault = IsCut 4 total rest fault ⊎ IsNoCount rest fault

-- behind a right profile
abbrev pub FailsBehindProfile : Land → ℕ → List ℕ → PrepFault → Type 0
FailsBehindProfile land total rest fault =
    FailsInSizes land total rest fault
    ⊎ Behind (big_bytes 4 (length land.graph.places) ++ big_bytes 4 (length land.graph.edges)) rest (λ after. FailsInCount total after fault)

-- behind the magic
abbrev pub FailsBehindMagic : Land → ℕ → List ℕ → PrepFault → Type 0
FailsBehindMagic land total rest fault =
    FailsInProfile land total rest fault
    ⊎ ((profile : ℕ) × (profile < length land.profiles) × (profile < 2 ^ 32)
    × Behind (big_bytes 4 profile) rest (λ after. FailsBehindProfile land total after fault))

abbrev pub FailsInHead : Land → ℕ → List ℕ → PrepFault → Type 0
FailsInHead land total bytes fault =
    FailsInMagic total bytes fault ⊎ Behind magic bytes (λ rest. FailsBehindMagic land total rest fault)

-- the landmark at a place by the rule for so many; none where the rule gives fewer, or none at all
abbrev pub IsRuleAt : Network → ℕ → ℕ → ℕ → Type 0
IsRuleAt network count place node =
    (landmarks : List ℕ) × (grain : ℕ) × IsPlacing network count landmarks grain × (slice_get landmarks place ≡ Some node)

-- behind some landmarks that stand by a rule, one is cut, or is another than the rule's
pub record FailsByRule (Rule : ℕ → ℕ → Type 0) (count total : ℕ) (rest : List ℕ) (fault : PrepFault) : Type 0 where
  pub right : List ℕ
  pub after : List ℕ
  pub bytes : rest ≡ words right ++ after
  pub fewer : length right < count
  pub by_rule : (place node : ℕ) → slice_get right place ≡ Some node → Rule place node
  pub fails : IsCut 4 total after fault
      ⊎ ((node : ℕ) × (node < 2 ^ 32) × (Rule (length right) node → ⊥)
      × Behind (big_bytes 4 node) after (λ _. fault ≡ faults.Landmarks (length right)))

abbrev pub FailsInLandmarks : Network → ℕ → ℕ → List ℕ → PrepFault → Type 0
FailsInLandmarks network count total rest fault = FailsByRule (IsRuleAt network count) count total rest fault

-- the grain is cut, or another
abbrev pub FailsInGrain : ℕ → ℕ → List ℕ → PrepFault → Type 0
FailsInGrain grain total rest fault =
    IsCut 8 total rest fault
    ⊎ ((other : ℕ) × (other < 2 ^ 64) × (other ≡ grain → ⊥) × Behind (big_bytes 8 other) rest (λ _. fault ≡ faults.Grain other))

-- behind some items that may follow one another, one is cut, or may not follow
pub record FailsInItems (network : Network) (grain landmark : ℕ) (which : Which) (count total : ℕ) (rest : List ℕ) (fault : PrepFault) : Type 0 where
  pub right : List Item
  pub after : List ℕ
  pub bytes : rest ≡ items_text right ++ after
  pub fewer : length right < count
  pub order : MayAllFollow network grain landmark [] right
  pub fails : IsCut 6 total after fault
      ⊎ ((item : Item) × (item.node.0 < 2 ^ 32) × (item.label < 2 ^ 16) × (MayFollow network grain landmark right item → ⊥)
      × Behind (item_text item) after (λ _. fault ≡ faults.Order which.landmark which.back (length right)))

-- a list is empty
abbrev pub IsEmpty : Which → ℕ → PrepFault → Type 0
IsEmpty which count fault = (count ≡ 0) × (fault ≡ faults.Order which.landmark which.back 0)

-- a list in order from which a hop leads out, or to a label that is too great
pub record HasOpenHop (network : Network) (grain landmark : ℕ) (which : Which) (rest : List ℕ) (fault : PrepFault) : Type 0 where
  pub items : List Item
  pub after : List ℕ
  pub bytes : rest ≡ list_text items ++ after
  pub word : length items < 2 ^ 32
  pub some : 0 < length items
  pub order : MayAllFollow network grain landmark [] items
  pub edge : DirEdge
  pub opens : IsFirstOpen network grain items edge
  pub is : fault ≡ faults.Open which.landmark which.back edge

abbrev pub FailsInList : Network → ℕ → ℕ → Which → ℕ → List ℕ → PrepFault → Type 0
FailsInList network grain landmark which total rest fault =
    IsCut 4 total rest fault
    ⊎ (((count : ℕ) × (count < 2 ^ 32) × Behind (big_bytes 4 count) rest (λ after.
    IsEmpty which count fault ⊎ FailsInItems network grain landmark which count total after fault))
    ⊎ HasOpenHop network grain landmark which rest fault)

-- the lists of a landmark: the first fails, or behind it the second
abbrev pub FailsInPair : Network → Network → ℕ → ℕ → ℕ → ℕ → List ℕ → PrepFault → Type 0
FailsInPair network back grain landmark number total rest fault =
    FailsInList network grain landmark (record { landmark = number; back = false }) total rest fault
    ⊎ ((items : List Item) × (length items < 2 ^ 32) × IsEvidence network grain landmark items
    × Behind (list_text items) rest (λ after. FailsInList back grain landmark (record { landmark = number; back = true }) total after fault))

-- behind the lists of some landmarks, all evidence, those of one fail
pub record FailsInLists (network back : Network) (grain : ℕ) (landmarks : List ℕ) (total : ℕ) (rest : List ℕ) (fault : PrepFault) : Type 0 where
  pub before : List ℕ
  pub landmark : ℕ
  pub later : List ℕ
  pub landmarks_are : landmarks ≡ before ++ landmark ∷ later
  pub right : List Lists
  pub evidence : AllZip (AreEvidence network back grain) before right
  pub after : List ℕ
  pub bytes : rest ≡ lists_text right ++ after
  pub fails : FailsInPair network back grain landmark (length before) total after fault

-- the fault is in the limits: the end cuts one
abbrev pub FailsAtLimits : Land → List ℕ → PrepFault → Type 0
FailsAtLimits land bytes fault =
    (profile count : ℕ) × (rest : List ℕ) × HasHead land bytes profile count rest
    × IsCut (8 * length land.graph.edges) (length bytes) rest fault

abbrev pub FailsAtLandmarks : Land → List ℕ → PrepFault → Type 0
FailsAtLandmarks land bytes fault =
    (profile count : ℕ) × (snapshot rest : List ℕ) × HasLimits land bytes profile count snapshot rest
    × FailsInLandmarks (roads_at land profile snapshot) count (length bytes) rest fault

abbrev pub FailsAtGrain : Land → List ℕ → PrepFault → Type 0
FailsAtGrain land bytes fault =
    (profile grain : ℕ) × (snapshot landmarks rest : List ℕ) × HasLandmarks land bytes profile snapshot landmarks grain rest
    × FailsInGrain grain (length bytes) rest fault

abbrev pub FailsAtLists : Land → List ℕ → PrepFault → Type 0
FailsAtLists land bytes fault =
    (profile grain : ℕ) × (snapshot landmarks rest : List ℕ)
    × HasLandmarks land bytes profile snapshot landmarks grain (big_bytes 8 grain ++ rest)
    × FailsInLists (roads_at land profile snapshot) (back_at land profile snapshot) grain landmarks (length bytes) rest fault

-- a byte follows a store
abbrev pub HasMore : Land → List ℕ → PrepFault → Type 0
HasMore land bytes fault =
    (prep : Preparation) × (front : List ℕ) × (byte : ℕ) × (rest : List ℕ)
    × IsStored land prep front × (bytes ≡ front ++ byte ∷ rest) × (fault ≡ faults.After)

-- the first fault of bytes that are no store
abbrev pub IsFirstFault : Land → List ℕ → PrepFault → Type 0
IsFirstFault land bytes fault =
    FailsInHead land (length bytes) bytes fault
    ⊎ (FailsAtLimits land bytes fault
    ⊎ (FailsAtLandmarks land bytes fault
    ⊎ (FailsAtGrain land bytes fault
    ⊎ (FailsAtLists land bytes fault
    ⊎ HasMore land bytes fault))))
