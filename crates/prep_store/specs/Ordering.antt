-- Private: what is known while the nodes of a landmark are listed, between two of them and between two hops.
use Rattle.std.specs.Prelude.{◌≡◌, ◌⊎◌, ℕ, ◌+◌, ◌*◌, ◌<◌, Bool, true, false, Option, Some, None, is_none, IsSome, List, [], ◌∷◌, ◌++◌, length, Contains, slice_set}
use Rattle.std.specs.Io.KnownBytes.{Appends}
use Rattle.gh_base.specs.declared.edges.Hop.{Hop}
use Rattle.gh_base.specs.Networks.{Network}
use Rattle.gh_base.specs.Causes.{AppendsFront}
use Rattle.walk_rules.specs.Distances.{label_at}
use Rattle.walk_rules.specs.Starts.{count_below}
use Rattle.search_queue.specs.Keys.{key_at}
use Rattle.byteorder.specs.Endian.{big_bytes}
use Rattle.traffic_core.specs.Lands.{Land}
use Rattle.landmark_prep.specs.Packing.{Labels}
use Rattle.landmark_prep.specs.Preparations.{Preparation}
use Rattle.landmark_prep.specs.Bounds.{labels_at}
use Rattle.prep_store.specs.declared.item.Item.{Item}
use Rattle.prep_store.specs.Evidence.{label_in, label_after}
use Rattle.prep_store.specs.Stores.{words, list_text, head_text}
use Rattle.prep_store.specs.Steps.{Listed}
use Rattle.prep_store.specs.Writing.{IsCandidate, AreNext, IsListing}

-- the labels of a landmark from it, or to it
abbrev pub side_of : Bool → Labels → List (Option ℕ)
side_of true labels = labels.to
side_of false labels = labels.from

-- the label that a preparation has for a node, of the landmark at a place
abbrev pub told_label : Preparation → ℕ → Bool → ℕ → Option ℕ
told_label prep landmark back node = label_at (side_of back (labels_at prep.labels landmark)) node

-- where an item stands among the next: by its label, then by its number
abbrev pub key_of : Item → ℕ
key_of item = item.label * 4294967296 + item.node.0

-- a node isn't listed
abbrev pub is_new : List Item → ℕ → Bool
is_new listed node = is_none (label_in listed node)

-- a hop gives an item its label, from its tail's
pub record Gives (grain tail : ℕ) (hop : Hop) (item : Item) : Type 0 where
  pub leads : hop.to.0 ≡ item.node.0
  pub weight : ℕ
  pub weighs : hop.weight ≡ Some weight
  pub gives : item.label ≡ label_after grain tail weight

-- each key is that of a candidate
abbrev pub AreCandidates : Network → ℕ → (ℕ → Option ℕ) → List Item → List (Option ℕ) → Type 0
AreCandidates network grain labels listed keys =
    (node key : ℕ) → key_at keys node ≡ Some key → (item : Item) × IsCandidate network grain labels listed item × (item.node.0 ≡ node) × (key ≡ key_of item)

-- the keys are those of the candidates
pub record IsOpen (network : Network) (grain : ℕ) (labels : ℕ → Option ℕ) (listed : List Item) (keys : List (Option ℕ)) : Type 0 where
  pub each : AreCandidates network grain labels listed keys
  pub all : (item : Item) → IsCandidate network grain labels listed item → key_at keys item.node.0 ≡ Some (key_of item)

-- but for those candidates to which the hops that are left of the last listed node lead
pub record IsOpenBut (network : Network) (grain : ℕ) (labels : ℕ → Option ℕ) (listed : List Item) (tail : ℕ) (left : List Hop) (keys : List (Option ℕ)) : Type 0 where
  pub each : AreCandidates network grain labels listed keys
  pub all : (item : Item) → IsCandidate network grain labels listed item →
      (key_at keys item.node.0 ≡ Some (key_of item)) ⊎ ((hop : Hop) × Contains left hop × Gives grain tail hop item)

-- a hop brings in a node that isn't listed, with its label
pub record Enters (grain : ℕ) (labels : ℕ → Option ℕ) (listed : List Item) (tail : ℕ) (hop : Hop) (keys keys' : List (Option ℕ)) : Type 0 where
  pub item : Item
  pub gives : Gives grain tail hop item
  pub label : labels item.node.0 ≡ Some (grain * item.label)
  pub new : label_in listed item.node.0 ≡ None
  pub keys_are : keys' ≡ slice_set keys item.node.0 (Some (key_of item))

-- nothing changes: it gives no label, or its head is listed or has its key
pub record Passes (grain : ℕ) (labels : ℕ → Option ℕ) (listed : List Item) (tail : ℕ) (hop : Hop) (keys keys' : List (Option ℕ)) : Type 0 where
  pub same : keys' ≡ keys
  pub no_use : (item : Item) → Gives grain tail hop item → labels item.node.0 ≡ Some (grain * item.label) → label_in listed item.node.0 ≡ None → IsSome (key_at keys item.node.0)

-- what a hop of the last listed node changes
abbrev pub Offers : ℕ → (ℕ → Option ℕ) → List Item → ℕ → Hop → List (Option ℕ) → List (Option ℕ) → Type 0
Offers grain labels listed tail hop keys keys' = Enters grain labels listed tail hop keys keys' ⊎ Passes grain labels listed tail hop keys keys'

-- between two listed nodes: what is listed is the front of a listing, and the keys are those of the candidates
pub record IsUnderway (network : Network) (grain landmark : ℕ) (labels : ℕ → Option ℕ) (starts : ℕ) (listing : Listed) (keys : List (Option ℕ)) : Type 0 where
  pub few : network.nodes < 4294967296
  pub nodes : listing.nodes ≡ network.nodes
  pub long : length keys ≡ network.nodes
  pub starts_are : starts ≡ length listing.items
  pub counted : length listing.items + count_below (is_new listing.items) network.nodes ≡ network.nodes
  pub keyed : IsOpen network grain labels listing.items keys
  pub front : (rest : List Item) → AreNext network grain labels listing.items rest → IsListing network grain landmark labels (listing.items ++ rest)

-- what stands before the lists
abbrev pub front_text : Land → Preparation → List ℕ
front_text land prep =
    head_text land prep.profile (length prep.landmarks) ++ (words prep.snapshot ++ (words prep.landmarks ++ big_bytes 8 prep.grain))

-- a text of the list of a landmark
abbrev pub IsListText : Network → ℕ → ℕ → (ℕ → Option ℕ) → List ℕ → Type 0
IsListText network grain landmark labels text = (items : List Item) × IsListing network grain landmark labels items × (text ≡ list_text items)

-- two texts, one behind the other
abbrev pub IsBoth : (List ℕ → Type 0) → (List ℕ → Type 0) → List ℕ → Type 0
IsBoth First Second text = (first second : List ℕ) × First first × Second second × (text ≡ first ++ second)

-- those of both lists of a landmark
abbrev pub IsPairText : Network → Network → ℕ → ℕ → Labels → List ℕ → Type 0
IsPairText network back grain landmark labels text = IsBoth (IsListText network grain landmark (label_at labels.from)) (IsListText back grain landmark (label_at labels.to)) text

-- those of each landmark
abbrev pub AreTexts : Network → Network → ℕ → List ℕ → List Labels → List ℕ → Type 0
AreTexts network back grain [] [] text = text ≡ []
AreTexts network back grain (landmark ∷ landmarks) (labels ∷ table) text = IsBoth (IsPairText network back grain landmark labels) (AreTexts network back grain landmarks table) text
AreTexts network back grain landmarks table text = ⊥

-- such a text was given to a sink
pub record IsGiven (IsSo : List ℕ → Type 0) (old new : Option (List ℕ)) : Type 0 where
  pub text : List ℕ
  pub so : IsSo text
  pub given : Appends old new text

-- of each such text a front was given
pub record IsCutOff (IsSo : List ℕ → Type 0) (old new : Option (List ℕ)) : Type 0 where
  pub front : (text : List ℕ) → IsSo text → AppendsFront old new text

-- the lists of some landmarks are in front of those of all, and nothing else is
pub record AreGivenSoFar (network back : Network) (grain : ℕ) (landmarks : List ℕ) (table : List Labels) (left : List ℕ) (left_table : List Labels) (front : List ℕ) : Type 0 where
  pub more : (rest : List ℕ) → AreTexts network back grain left left_table rest → AreTexts network back grain landmarks table (front ++ rest)
  pub only : (text : List ℕ) → AreTexts network back grain landmarks table text → IsBoth (λ t. t ≡ front) (AreTexts network back grain left left_table) text
