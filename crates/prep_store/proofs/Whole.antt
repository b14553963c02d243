-- What a preparation has of its roads, and how its text falls into parts.
use Rattle.std.specs.List.{AllZip}
use Rattle.std.specs.Prelude.{slice_get}
use Rattle.std.proofs.Common.{◌≡◌, ◌<◌, ◌*◌, ℕ, Option, Some, None, List, [], ◌∷◌, ◌++◌, length, zero, suc, refl, sym, subst, ap, ◌∙◌, append_assoc, arith}
use Rattle.gh_base.specs.declared.edges.DirEdge.{DirEdge}
use Rattle.gh_base.specs.Networks.{Network}
use Rattle.base_graph.specs.Graphs.{Graph}
use Rattle.weighting.specs.declared.profile.Profile.{Profile}
use Rattle.weighting.specs.declared.weight_view.Side.{Side}
use Rattle.weighting.specs.Profiles.{profile_at}
use Rattle.weighting.specs.Roads.{network_of}
use Rattle.weighting.specs.Rules.{Rule, rule_of}
use Rattle.walk_rules.specs.Distances.{in_grains, IsLabel, label_at}
use Rattle.alt_search.proofs.Listed.{within}
use Rattle.landmark_prep.specs.Packing.{Labels}
use Rattle.landmark_prep.specs.Preparations.{AreLabelsOf, Preparation, IsPrepOf}
use Rattle.landmark_prep.specs.Bounds.{labels_at}
use Rattle.byteorder.specs.Endian.{big_bytes}
use Rattle.traffic_core.specs.Lands.{Land, rule_alone}
use Rattle.traffic_core.specs.History.{limit_in}
use Rattle.prep_store.specs.Stores.{words, Lists, lists_text, head_text, roads_at, back_at}
use Rattle.prep_store.specs.Writing.{store_text, IsStoreOf}
use Rattle.prep_store.specs.Ordering.{front_text, IsBoth, AreTexts}
use Rattle.prep_store.proofs.Tables.{zip_long}
use Rattle.prep_store.proofs.Listings.{texts_of, lists_of}

-- a landmark is one of the nodes: it has a label, that of the walk of no hop
label_of_own : (network : Network) (grain landmark : ℕ) (label : Option ℕ) → IsLabel (in_grains grain network) (65534 * grain) landmark landmark label → (x : ℕ) × (label ≡ Some x)
label_of_own network grain landmark None none = absurd (none [] refl)
label_of_own network grain landmark (Some x) is = (x, refl)

landmark_within : (network : Network) (grain landmark : ℕ) (labels : Labels) → AreLabelsOf network grain landmark labels → landmark < network.nodes
landmark_within network grain landmark labels a =
    let own = label_of_own network grain landmark (label_at labels.from landmark) (a.from_it landmark) in
    omega (arith, within labels.from landmark own.0 own.1, a.from_each)

all_at : (Holds : ℕ → Labels → Type 0) (landmarks : List ℕ) (table : List Labels) (place node : ℕ) → AllZip Holds landmarks table → slice_get landmarks place ≡ Some node → Holds node (labels_at table place)
all_at Holds [] table place node a e = absurd (cc)
all_at Holds (x ∷ landmarks) [] place node a e = absurd a
all_at Holds (x ∷ landmarks) (l ∷ table) zero node a e = let same : x ≡ node = cc in subst (λ (n : ℕ). Holds n l) same a.0
all_at Holds (x ∷ landmarks) (l ∷ table) (suc place) node a e = all_at Holds landmarks table place node a.1 e

module _ (network : Network) (prep : Preparation) (is : IsPrepOf network (length prep.landmarks) prep) where
  pub prep_nodes : (place node : ℕ) → slice_get prep.landmarks place ≡ Some node → node < network.nodes
  prep_nodes place node e = landmark_within network prep.grain node (labels_at prep.labels place) (all_at (AreLabelsOf network prep.grain) prep.landmarks prep.labels place node is.labels_are e)

  pub prep_table : length prep.labels ≡ length prep.landmarks
  prep_table = zip_long (AreLabelsOf network prep.grain) prep.landmarks prep.labels is.labels_are

-- the text of a store is what stands before the lists, and the lists
pub store_split : (land : Land) (prep : Preparation) (lists : List Lists) → store_text land prep lists ≡ front_text land prep ++ lists_text lists
store_split land prep lists = split (head_text land prep.profile (length prep.landmarks)) (words prep.snapshot) (words prep.landmarks) (big_bytes 8 prep.grain) (lists_text lists)
  where
    split : (a b c d e : List ℕ) → a ++ (b ++ (c ++ (d ++ e))) ≡ (a ++ (b ++ (c ++ d))) ++ e
    split a b c d e = simp append_assoc

-- what a view of the graph shows from a side, under the profile alone at the snapshot
pub seen_roads : (side : Side) (land : Land) (prep : Preparation) (number : ℕ) (own : Profile) (rule : Rule) (seen : DirEdge → ℕ) (limits : List ℕ) (graph : Graph) (network : Network) →
    network ≡ network_of side rule seen graph → rule ≡ rule_of own None → own ≡ profile_at land.profiles number → number ≡ prep.profile → seen ≡ limit_in limits → limits ≡ prep.snapshot → graph ≡ land.graph →
    network ≡ network_of side (rule_alone (profile_at land.profiles prep.profile)) (limit_in prep.snapshot) land.graph
seen_roads side land prep number own rule seen limits graph network is rule_is own_is number_is seen_is limits_are graph_is =
    is ∙ (ap (λ (r : Rule). network_of side r seen graph) (rule_is ∙ ap (λ (p : Profile). rule_of p None) (own_is ∙ ap (profile_at land.profiles) number_is))
    ∙ (ap (λ (f : DirEdge → ℕ). network_of side (rule_alone (profile_at land.profiles prep.profile)) f graph) (seen_is ∙ ap limit_in limits_are)
    ∙ ap (λ (gr : Graph). network_of side (rule_alone (profile_at land.profiles prep.profile)) (limit_in prep.snapshot) gr) graph_is))

-- the text of a store, and the store of a text
abbrev IsWhole : Land → Preparation → List ℕ → Type 0
IsWhole land prep text = IsBoth (λ t. t ≡ front_text land prep) (AreTexts (roads_at land prep.profile prep.snapshot) (back_at land prep.profile prep.snapshot) prep.grain prep.landmarks prep.labels) text

pub text_of : (land : Land) (prep : Preparation) (text : List ℕ) → IsStoreOf land prep text → IsWhole land prep text
text_of land prep text s = (front_text land prep, lists_text s.lists, refl, texts_of _ _ prep.grain prep.landmarks prep.labels s.lists s.listings, s.text_is ∙ store_split land prep s.lists)

pub store_of : (land : Land) (prep : Preparation) (text : List ℕ) → IsWhole land prep text → IsStoreOf land prep text
store_of land prep text w =
    let l = lists_of (roads_at land prep.profile prep.snapshot) (back_at land prep.profile prep.snapshot) prep.grain prep.landmarks prep.labels w.1 w.3 in
    record { lists = l.0; listings = l.1; text_is = w.4 ∙ (ap (λ (t : List ℕ). t ++ w.1) w.2 ∙ (ap (λ (t : List ℕ). front_text land prep ++ t) l.2 ∙ sym (store_split land prep l.0))) }

-- what holds over networks holds over the same ones
pub texts_over : (Holds : Network → Network → Type 0) {a b c d : Network} → a ≡ b → c ≡ d → Holds a c → Holds b d
texts_over Holds {a} {b} {c} {d} e f h = subst (λ (n : Network). Holds b n) f (subst (λ (n : Network). Holds n c) e h)
