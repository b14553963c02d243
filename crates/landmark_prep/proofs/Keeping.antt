-- What is kept as numbers of grains, read again.
use Rattle.std.proofs.Common.{◌≡◌, ℕ, ◌*◌, ◌^◌, ◌<◌, ◌≤◌, All, Option, Some, List, [], ◌∷◌, length, map, zero, suc, refl, sym, subst, ap, arith}
use Rattle.std.specs.Prelude.{slice_index, slice_get, ◌+◌, ◌++◌, take}
use Rattle.std.proofs.lemmas.List.{length-map}
use Rattle.std.proofs.lemmas.List.Elements.{All-head, All-tail}
use Rattle.gh_base.specs.Networks.{Network}
use Rattle.walk_rules.specs.Distances.{in_grains, IsLabel, label_at}
use Rattle.landmark_prep.specs.declared.labels.PackedLabels.{PackedLabels}
use Rattle.landmark_prep.specs.Packing.{packed, unpacked, unpacked_labels, packed_nodes, packed_at, AreLong}
use Rattle.landmark_prep.specs.Preparations.{nodes_of}
use Rattle.landmark_prep.specs.Bounds.{labels_at}
use Rattle.landmark_prep.proofs.Graining.{kept_label}

pub unpacked_at : (grain : ℕ) (table : List PackedLabels) (place : ℕ) → labels_at (map (unpacked_labels grain) table) place ≡ unpacked_labels grain (packed_at table place)
unpacked_at grain [] place = refl
unpacked_at grain (l ∷ table) zero = refl
unpacked_at grain (l ∷ table) (suc place) = unpacked_at grain table place

pub number_at : (grain : ℕ) (row : List ℕ) (node : ℕ) → node < length row → label_at (map (unpacked grain) row) node ≡ unpacked grain (slice_index row node)
number_at grain [] node l = absurd (omega arith)
number_at grain (n ∷ row) zero l = refl
number_at grain (n ∷ row) (suc node) l = number_at grain row node (omega arith)

pub nodes_packed : (grain : ℕ) (table : List PackedLabels) → nodes_of (map (unpacked_labels grain) table) ≡ packed_nodes table
nodes_packed grain [] = refl
nodes_packed grain (l ∷ table) = length-map l.from (unpacked grain)

pub long_at : (nodes : ℕ) (table : List PackedLabels) (place : ℕ) → All (AreLong nodes) table → place < length table → AreLong nodes (packed_at table place)
long_at nodes [] place a l = absurd (omega arith)
long_at nodes (t ∷ table) zero a l = All-head (AreLong nodes) t table a
long_at nodes (t ∷ table) (suc place) a l = long_at nodes table place (All-tail (AreLong nodes) t table a) (omega arith)

kept_at : (grain : ℕ) (labels : List (Option ℕ)) (node : ℕ) → label_at (map (unpacked grain) (map (packed grain) labels)) node ≡ unpacked grain (packed grain (label_at labels node))
kept_at grain [] node = refl
kept_at grain (l ∷ labels) zero = refl
kept_at grain (l ∷ labels) (suc node) = kept_at grain labels node

-- labels that are kept are the labels cut at 65534 grains
pub kept_from : (grain : ℕ) (network : Network) (from node : ℕ) (labels : List (Option ℕ)) → 1 ≤ grain → grain ≤ 2 ^ 46 → IsLabel (in_grains grain network) (2 ^ 62) from node (label_at labels node) → IsLabel (in_grains grain network) (65534 * grain) from node (label_at (map (unpacked grain) (map (packed grain) labels)) node)
kept_from grain network from node labels fine coarse l = subst (λ (o : Option ℕ). IsLabel (in_grains grain network) (65534 * grain) from node o) (sym (kept_at grain labels node)) (kept_label grain network from node (label_at labels node) fine coarse l)

pub kept_to : (grain : ℕ) (network : Network) (node to : ℕ) (labels : List (Option ℕ)) → 1 ≤ grain → grain ≤ 2 ^ 46 → IsLabel (in_grains grain network) (2 ^ 62) node to (label_at labels node) → IsLabel (in_grains grain network) (65534 * grain) node to (label_at (map (unpacked grain) (map (packed grain) labels)) node)
kept_to grain network node to labels fine coarse l = subst (λ (o : Option ℕ). IsLabel (in_grains grain network) (65534 * grain) node to o) (sym (kept_at grain labels node)) (kept_label grain network node to (label_at labels node) fine coarse l)

-- one label more is kept
packed_next : (grain : ℕ) (labels : List (Option ℕ)) (n : ℕ) (label : Option ℕ) → slice_get labels n ≡ Some label → map (packed grain) (take (suc n) labels) ≡ map (packed grain) (take n labels) ++ packed grain label ∷ []
packed_next grain [] n label e = absurd (cc)
packed_next grain (l ∷ labels) zero label e = let same : l ≡ label = cc in ap (λ (o : Option ℕ). packed grain o ∷ []) same
packed_next grain (l ∷ labels) (suc n) label e = ap (λ (xs : List ℕ). packed grain l ∷ xs) (packed_next grain labels n label e)

pub packed_more : (grain : ℕ) (labels : List (Option ℕ)) (n : ℕ) (label : Option ℕ) → slice_get labels n ≡ Some label → map (packed grain) (take (n + 1) labels) ≡ map (packed grain) (take n labels) ++ packed grain label ∷ []
packed_more grain labels n label e =
    let one : suc n ≡ n + 1 = omega arith in
    subst (λ (k : ℕ). map (packed grain) (take k labels) ≡ map (packed grain) (take n labels) ++ packed grain label ∷ []) one (packed_next grain labels n label e)
