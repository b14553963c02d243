-- What bytes are stored for is the preparation of its roads.
use Rattle.std.specs.List.{AllZip}
use Rattle.std.proofs.Common.{◌≡◌, ℕ, ◌*◌, Option, Some, None, List, [], ◌∷◌, map, IsSome, Contains, refl, sym, subst, ap, ◌∙◌}
use Rattle.gh_base.specs.declared.edges.Hop.{Hop}
use Rattle.gh_base.specs.Networks.{Network}
use Rattle.walk_rules.specs.Walks.{HasEachBack, AreTurned}
use Rattle.walk_rules.specs.Distances.{rounded, rounded_hop, in_grains, label_at}
use Rattle.walk_rules.proofs.Turning.{turned_label}
use Rattle.label_spread.specs.Cutting.{Contains-map_from}
use Rattle.landmark_prep.specs.Packing.{Labels}
use Rattle.landmark_prep.specs.Preparations.{AreLabelsOf, Preparation}
use Rattle.landmark_prep.proofs.Graining.{Contains-map}
use Rattle.base_graph.specs.Graphs.{IsGraph}
use Rattle.weighting.specs.Profiles.{profile_at}
use Rattle.weighting.proofs.Turned.{sides_are_turned}
use Rattle.traffic_core.specs.Lands.{Land, rule_alone}
use Rattle.traffic_core.specs.History.{limit_in}
use Rattle.traffic_core.specs.Truth.{IsTrueOver}
use Rattle.prep_store.specs.Stores.{Lists, AreEvidence, AreOfLists, IsStored, roads_at, back_at}
use Rattle.prep_store.proofs.Attained.{evidence_tells}

some_rounded : (grain : ℕ) (weight : Option ℕ) → IsSome (rounded grain weight) → IsSome weight
some_rounded grain None s = s
some_rounded grain (Some w) s = refl

back_in_grains : (grain : ℕ) (out back : Network) → HasEachBack out back → HasEachBack (in_grains grain out) (in_grains grain back)
back_in_grains grain out back h node hop c s =
    let from = Contains-map_from (rounded_hop grain) (out.hops node) hop c in
    let weight : rounded grain from.0.weight ≡ hop.weight = ap (λ (x : Hop). x.weight) from.2 in
    let to : from.0.to.0 ≡ hop.to.0 = ap (λ (x : Hop). x.to.0) from.2 in
    let other = h node from.0 from.1 (some_rounded grain from.0.weight (subst (λ (o : Option ℕ). IsSome o) (sym weight) s)) in
    (rounded_hop grain other.0, subst (λ (n : ℕ). Contains (map (rounded_hop grain) (back.hops n)) (rounded_hop grain other.0)) to (Contains-map (rounded_hop grain) (back.hops from.0.to.0) other.0 other.1), other.2, ap (rounded grain) other.3 ∙ weight)

-- what is turned round is so in grains too
pub grains_turned : (grain : ℕ) (out back : Network) → AreTurned out back → AreTurned (in_grains grain out) (in_grains grain back)
grains_turned grain out back t = record { nodes = t.nodes; there = back_in_grains grain out back t.there; here = back_in_grains grain back out t.here }

module _ (network back : Network) (grain : ℕ) (turned : AreTurned network back) where
  shown_labels : (landmark : ℕ) (lists : Lists) (labels : Labels) → AreEvidence network back grain landmark lists → AreOfLists network.nodes grain lists labels → AreLabelsOf network grain landmark labels
  shown_labels landmark lists labels e l = record {
    from_each = l.from.long;
    to_each = l.to.long;
    from_it = evidence_tells network grain landmark lists.from (label_at labels.from) e.from l.from.each;
    to_it = λ node. turned_label (in_grains grain network) (in_grains grain back) (grains_turned grain network back turned) (65534 * grain) landmark node (label_at labels.to node)
        (evidence_tells back grain landmark lists.to (label_at labels.to) e.to l.to.each node);
  }

  pub all_shown : (landmarks : List ℕ) (lists : List Lists) (labels : List Labels) → AllZip (AreEvidence network back grain) landmarks lists → AllZip (AreOfLists network.nodes grain) lists labels → AllZip (AreLabelsOf network grain) landmarks labels
  all_shown [] [] [] e l = tt
  all_shown [] [] (x ∷ labels) e l = absurd l
  all_shown [] (x ∷ lists) labels e l = absurd e
  all_shown (x ∷ landmarks) [] labels e l = absurd e
  all_shown (x ∷ landmarks) (y ∷ lists) [] e l = absurd l
  all_shown (x ∷ landmarks) (y ∷ lists) (z ∷ labels) e l = (shown_labels x y z e.0 l.0, all_shown landmarks lists labels e.1 l.1)

pub stored_true : (land : Land) (prep : Preparation) (bytes : List ℕ) → IsGraph land.graph → IsStored land prep bytes → IsTrueOver land prep
stored_true land prep bytes graph stored =
    let s = stored.1 in
    let turned : AreTurned (roads_at land prep.profile prep.snapshot) (back_at land prep.profile prep.snapshot) =
    sides_are_turned (rule_alone (profile_at land.profiles prep.profile)) (limit_in prep.snapshot) land.graph graph in
    record {
      there = s.landmarks.limits.head.there;
      long = s.landmarks.limits.long;
      is_prep = record {
        placing = s.landmarks.placing;
        labels_are = all_shown (roads_at land prep.profile prep.snapshot) (back_at land prep.profile prep.snapshot) prep.grain turned prep.landmarks stored.0 prep.labels s.evidence s.labels;
      };
    }
