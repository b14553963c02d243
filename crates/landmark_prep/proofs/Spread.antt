-- What a job gives is a row of labels.
use Rattle.std.proofs.Common.{◌≡◌, ℕ, ◌*◌, ◌^◌, ◌≤◌, map, Option, Some, None, List, IsSome, Contains, length, refl, sym, subst, ap, ◌∙◌, arith}
use Rattle.std.proofs.lemmas.List.{length-map}
use Rattle.gh_base.specs.declared.edges.Hop.{Hop}
use Rattle.gh_base.specs.Networks.{Network}
use Rattle.walk_rules.specs.Walks.{HasEachBack, AreTurned}
use Rattle.walk_rules.specs.Distances.{rounded, rounded_hop, in_grains, AreLabelsFrom, AreLabelsTo, label_at}
use Rattle.label_spread.specs.Cutting.{Contains-map_from}
use Rattle.landmark_prep.specs.declared.spreading.Way.{Way}
use Rattle.landmark_prep.specs.declared.spreading.Way.TheVariants.{From, To}
use Rattle.landmark_prep.specs.declared.spreading.Job.{Job}
use Rattle.landmark_prep.specs.Packing.{packed, unpacked}
use Rattle.landmark_prep.specs.Jobs.{IsRow, AreLabelsAlong}
use Rattle.landmark_prep.proofs.Graining.{Contains-map}
use Rattle.landmark_prep.proofs.Keeping.{kept_from, kept_to}

some_rounded : (grain : ℕ) (weight : Option ℕ) → IsSome (rounded grain weight) → IsSome weight
some_rounded grain None s = s
some_rounded grain (Some w) s = refl

back_in_grains : (grain : ℕ) (out back : Network) → HasEachBack out back → HasEachBack (in_grains grain out) (in_grains grain back)
back_in_grains grain out back h node hop c s =
    let from = Contains-map_from (rounded_hop grain) (out.hops node) hop c in
    let weight : rounded grain from.0.weight ≡ hop.weight = ap (λ (x : Hop). x.weight) from.2 in
    let to : from.0.to.0 ≡ hop.to.0 = ap (λ (x : Hop). x.to.0) from.2 in
    let other = h node from.0 from.1 (some_rounded grain from.0.weight (subst (λ (o : Option ℕ). IsSome o) (sym weight) s)) in
    (rounded_hop grain other.0, subst (λ (n : ℕ). Contains (map (rounded_hop grain) (back.hops n)) (rounded_hop grain other.0)) to (Contains-map (rounded_hop grain) (back.hops from.0.to.0) other.0 other.1), other.2, ap (rounded grain) other.3 ∙ weight)

-- what is turned round is so in grains too
grains_turned : (grain : ℕ) (out back : Network) → AreTurned out back → AreTurned (in_grains grain out) (in_grains grain back)
grains_turned grain out back t = record { nodes = t.nodes; there = back_in_grains grain out back t.there; here = back_in_grains grain back out t.here }

kept_long : (grain : ℕ) (labels : List (Option ℕ)) (row : List ℕ) (n : ℕ) → row ≡ map (packed grain) labels → length labels ≡ n → length row ≡ n
kept_long grain labels row n same long = ap length same ∙ length-map labels (packed grain) ∙ long

module _ (network view : Network) (grain : ℕ) (job : Job) (labels : List (Option ℕ)) (row : List ℕ) where
  pub row_from : job.way ≡ From → view ≡ in_grains grain network → row ≡ map (packed grain) labels → length labels ≡ view.nodes → AreLabelsFrom view (2 ^ 62) job.landmark.0 (label_at labels) → (count : ℕ) → count ≡ network.nodes → count ≤ 4294967295 → 1 ≤ grain → grain ≤ 2 ^ 46 → IsRow network grain job row
  row_from way same kept long each count nodes few fine coarse =
      let n : length row ≡ network.nodes = kept_long grain labels row network.nodes kept (long ∙ ap (λ (v : Network). v.nodes) same) in
      record {
        long = n;
        few = omega arith;
        labels = subst (λ (w : Way). AreLabelsAlong w (in_grains grain network) (65534 * grain) job.landmark.0 (label_at (map (unpacked grain) row))) (sym way)
            (subst (λ (r : List ℕ). AreLabelsFrom (in_grains grain network) (65534 * grain) job.landmark.0 (label_at (map (unpacked grain) r))) (sym kept)
            (λ node. kept_from grain network job.landmark.0 node labels fine coarse (subst (λ (v : Network). AreLabelsFrom v (2 ^ 62) job.landmark.0 (label_at labels)) same each node)));
      }

  pub row_to : (back : Network) → job.way ≡ To → view ≡ in_grains grain back → AreTurned network back → row ≡ map (packed grain) labels → length labels ≡ view.nodes → ((out : Network) → AreTurned out view → AreLabelsTo out (2 ^ 62) job.landmark.0 (label_at labels)) → (count : ℕ) → count ≡ network.nodes → count ≤ 4294967295 → 1 ≤ grain → grain ≤ 2 ^ 46 → IsRow network grain job row
  row_to back way same turned kept long each count nodes few fine coarse =
      let n : length row ≡ network.nodes = kept_long grain labels row network.nodes kept (long ∙ ap (λ (v : Network). v.nodes) same ∙ turned.nodes) in
      let there = each (in_grains grain network) (subst (λ (v : Network). AreTurned (in_grains grain network) v) (sym same) (grains_turned grain network back turned)) in
      record {
        long = n;
        few = omega arith;
        labels = subst (λ (w : Way). AreLabelsAlong w (in_grains grain network) (65534 * grain) job.landmark.0 (label_at (map (unpacked grain) row))) (sym way)
            (subst (λ (r : List ℕ). AreLabelsTo (in_grains grain network) (65534 * grain) job.landmark.0 (label_at (map (unpacked grain) r))) (sym kept)
            (λ node. kept_to grain network node job.landmark.0 labels fine coarse (there node)));
      }
