-- Labels that are distances fit along each hop.
use Rattle.std.specs.List.{AllZip}
use Rattle.std.proofs.Common.{◌≡◌, ℕ, ◌*◌, ◌≤◌, Option, Some, None, All, List, [], ◌∷◌, ◌++◌, IsSome, Contains, refl, sym, ap, ◌∙◌, arith}
use Rattle.std.proofs.lemmas.List.Elements.{All-nil, All-cons}
use Rattle.gh_base.specs.declared.edges.Hop.{Hop}
use Rattle.gh_base.specs.Networks.{Network}
use Rattle.walk_rules.specs.Walks.{hops_from, cost, IsNoFaster}
use Rattle.walk_rules.specs.Potentials.{IsWithin, FallsAlong, RisesAlong}
use Rattle.walk_rules.specs.Distances.{in_grains, IsLabel, label_at}
use Rattle.walk_rules.proofs.Walking.{walk_push}
use Rattle.landmark_prep.specs.Packing.{Labels}
use Rattle.landmark_prep.specs.Preparations.{Preparation, AreLabelsOf, IsPrepOf}
use Rattle.landmark_prep.specs.Bounds.{Fits, AreFit}
use Rattle.landmark_prep.proofs.Graining.{grains_no_faster}

-- a hop from a walk's end, and one to its start
module _ (network : Network) (limit : ℕ) (hop : Hop) (a : ℕ) (c : Contains (hops_from network a) hop) (s : IsSome hop.weight) where
  rise : (from : ℕ) (here there : Option ℕ) → IsLabel network limit from a here → IsLabel network limit from hop.to.0 there → IsWithin (cost hop) there here
  rise from None there l m x e = absurd (cc)
  rise from (Some z) None l m x e = absurd (m (l.hops ++ hop ∷ []) (walk_push network l.hops hop from a hop.to.0 l.walk c s refl).0)
  rise from (Some z) (Some y) l m x e =
      let on = walk_push network l.hops hop from a hop.to.0 l.walk c s refl in
      let same : z ≡ x = cc in
      (y, refl, let p = m.least (l.hops ++ hop ∷ []) on.0 in let q = on.1 in let r = l.weight in let t = m.weight in omega arith)

  fall : (to : ℕ) (here there : Option ℕ) → IsLabel network limit a to here → IsLabel network limit hop.to.0 to there → IsWithin (cost hop) here there
  fall to here None l m y e = absurd (cc)
  fall to None (Some z) l m y e = absurd (l (hop ∷ m.hops) (c, s, m.walk))
  fall to (Some x) (Some z) l m y e =
      let same : z ≡ y = cc in
      (x, refl, let p = l.least (hop ∷ m.hops) (c, s, m.walk) in let r = l.weight in let t = m.weight in omega arith)

-- what rises or falls along a network does so along one that is no faster
pub rises_slower : (base network : Network) (label : ℕ → Option ℕ) → IsNoFaster base network → RisesAlong base label → RisesAlong network label
rises_slower base network label n r node hop c s x e =
    let other = n node hop c s in
    let y = r node other.0 other.1 other.2 x e in
    (y.0, ap label (sym other.3) ∙ y.1, let a = y.2 in let b = other.4 in omega arith)

pub falls_slower : (base network : Network) (bound : ℕ → Option ℕ) → IsNoFaster base network → FallsAlong base bound → FallsAlong network bound
falls_slower base network bound n f node hop c s y e =
    let other = n node hop c s in
    let x = f node other.0 other.1 other.2 y (ap bound other.3 ∙ e) in
    (x.0, x.1, let a = x.2 in let b = other.4 in omega arith)

pub fits_slower : (base network : Network) (labels : Labels) → IsNoFaster base network → Fits base labels → Fits network labels
fits_slower base network labels n f = record {
  rises = rises_slower base network (label_at labels.from) n f.rises;
  falls = falls_slower base network (label_at labels.to) n f.falls;
}

-- labels at a grain fit the network in grains, which is no slower
pub labels_fit : (network : Network) (grain landmark : ℕ) (labels : Labels) → 1 ≤ grain → AreLabelsOf network grain landmark labels → Fits network labels
labels_fit network grain landmark labels fine l = fits_slower (in_grains grain network) network labels (grains_no_faster grain network fine) (record {
  rises = λ node hop c s. rise (in_grains grain network) (65534 * grain) hop node c s landmark (label_at labels.from node) (label_at labels.from hop.to.0) (l.from_it node) (l.from_it hop.to.0);
  falls = λ node hop c s. fall (in_grains grain network) (65534 * grain) hop node c s landmark (label_at labels.to node) (label_at labels.to hop.to.0) (l.to_it node) (l.to_it hop.to.0);
})

all_fit : (network : Network) (grain : ℕ) (landmarks : List ℕ) (labels : List Labels) → 1 ≤ grain → AllZip (AreLabelsOf network grain) landmarks labels → All (Fits network) labels
all_fit network grain [] [] fine z = All-nil (Fits network)
all_fit network grain [] (l ∷ labels) fine z = absurd z
all_fit network grain (landmark ∷ landmarks) [] fine z = absurd z
all_fit network grain (landmark ∷ landmarks) (l ∷ labels) fine z =
    All-cons (Fits network) l labels (labels_fit network grain landmark l fine z.0) (all_fit network grain landmarks labels fine z.1)

pub preparation_fits : (network : Network) (count : ℕ) (prep : Preparation) → IsPrepOf network count prep → AreFit network prep
preparation_fits network count prep p = all_fit network prep.grain prep.landmarks prep.labels (let e = p.placing.grain_is in omega arith) p.labels_are
