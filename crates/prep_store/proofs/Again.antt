-- What is written of a preparation is stored for it.
use Rattle.std.specs.List.{AllZip}
use Rattle.std.proofs.Common.{ℕ, ◌*◌, ◌≤◌, List, [], ◌∷◌, arith}
use Rattle.gh_base.specs.Networks.{Network}
use Rattle.walk_rules.specs.Walks.{AreTurned}
use Rattle.walk_rules.specs.Distances.{in_grains, AreLabelsFrom, label_at}
use Rattle.walk_rules.proofs.Turning.{turned_both, turned_label}
use Rattle.base_graph.specs.Graphs.{IsGraph}
use Rattle.weighting.specs.Profiles.{profile_at}
use Rattle.weighting.proofs.Turned.{sides_are_turned}
use Rattle.landmark_prep.specs.Packing.{Labels}
use Rattle.landmark_prep.specs.Preparations.{AreLabelsOf, Preparation}
use Rattle.traffic_core.specs.Lands.{Land, rule_alone}
use Rattle.traffic_core.specs.History.{limit_in}
use Rattle.traffic_core.specs.Truth.{IsTrueOver}
use Rattle.prep_store.specs.Stores.{Lists, AreEvidence, AreOfLists, IsStored, roads_at, back_at}
use Rattle.prep_store.specs.Writing.{AreListings, AreAllListings, FitsBytes, IsStoreOf}
use Rattle.prep_store.proofs.Shown.{grains_turned}
use Rattle.prep_store.proofs.Evident.{listing_evidence, listing_each}

module _ (network back : Network) (grain : ℕ) (fine : 1 ≤ grain) (turned : AreTurned network back) where
  -- the labels to a landmark are those from it over the roads turned round
  labels_back : (landmark : ℕ) (labels : Labels) → AreLabelsOf network grain landmark labels → AreLabelsFrom (in_grains grain back) (65534 * grain) landmark (label_at labels.to)
  labels_back landmark labels a node =
      turned_label (in_grains grain back) (in_grains grain network) (turned_both (in_grains grain network) (in_grains grain back) (grains_turned grain network back turned)) (65534 * grain) node landmark (label_at labels.to node) (a.to_it node)

  listings_evidence : (landmark : ℕ) (labels : Labels) (lists : Lists) → AreLabelsOf network grain landmark labels → AreListings network back grain landmark labels lists → AreEvidence network back grain landmark lists
  listings_evidence landmark labels lists a l = record {
    from = listing_evidence network grain landmark (label_at labels.from) lists.from fine a.from_it l.from;
    to = listing_evidence back grain landmark (label_at labels.to) lists.to fine (labels_back landmark labels a) l.to;
  }

  listings_labels : (landmark : ℕ) (labels : Labels) (lists : Lists) → AreLabelsOf network grain landmark labels → AreListings network back grain landmark labels lists → AreOfLists network.nodes grain lists labels
  listings_labels landmark labels lists a l = record {
    from = record { long = a.from_each; each = listing_each network grain landmark (label_at labels.from) lists.from fine a.from_it l.from };
    to = record { long = a.to_each; each = listing_each back grain landmark (label_at labels.to) lists.to fine (labels_back landmark labels a) l.to };
  }

  all_shown : (landmarks : List ℕ) (table : List Labels) (lists : List Lists) → AllZip (AreLabelsOf network grain) landmarks table → AreAllListings network back grain landmarks table lists →
      AllZip (AreEvidence network back grain) landmarks lists × AllZip (AreOfLists network.nodes grain) lists table
  all_shown [] [] [] a l = (tt, tt)
  all_shown [] [] (x ∷ lists) a l = absurd l
  all_shown [] (t ∷ table) lists a l = absurd a
  all_shown (n ∷ landmarks) [] lists a l = absurd a
  all_shown (n ∷ landmarks) (t ∷ table) [] a l = absurd l
  all_shown (n ∷ landmarks) (t ∷ table) (x ∷ lists) a l =
      let rest = all_shown landmarks table lists a.1 l.1 in ((listings_evidence n t x a.0 l.0, rest.0), (listings_labels n t x a.0 l.0, rest.1))

pub stored_again : (land : Land) (prep : Preparation) (text : List ℕ) → IsGraph land.graph → FitsBytes prep → IsTrueOver land prep → IsStoreOf land prep text → IsStored land prep text
stored_again land prep text graph fits is_true store =
    let network = roads_at land prep.profile prep.snapshot in
    let back = back_at land prep.profile prep.snapshot in
    let turned : AreTurned network back = sides_are_turned (rule_alone (profile_at land.profiles prep.profile)) (limit_in prep.snapshot) land.graph graph in
    let fine : 1 ≤ prep.grain = omega (arith, is_true.is_prep.placing.grain_is) in
    let shown = all_shown network back prep.grain fine turned prep.landmarks prep.labels store.lists is_true.is_prep.labels_are store.listings in (
      store.lists,
      record {
        landmarks = record {
          limits = record {
            head = record {
              bytes_are = store.text_is;
              there = is_true.there;
              word = fits.profile;
              some = omega (arith, is_true.is_prep.placing.landmarks_are.each.some);
              few = fits.few;
            };
            long = is_true.long;
            each = fits.limits;
          };
          placing = is_true.is_prep.placing;
        };
        evidence = shown.0;
        labels = shown.1;
      },
    )
