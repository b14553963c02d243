-- A network has one preparation, which is also the one for as many landmarks as it has.
use Rattle.std.specs.List.{AllZip}
use Rattle.std.proofs.Common.{◌≡◌, ℕ, ◌*◌, ◌<◌, Option, List, [], ◌∷◌, length, take, refl, sym, subst, ap, ◌∙◌, inl, inr, suc, arith}
use Rattle.std.proofs.lemmas.List.{take_all}
use Rattle.gh_base.specs.Networks.{Network}
use Rattle.walk_rules.specs.Distances.{in_grains, label_at}
use Rattle.walk_rules.proofs.Single.{one_label}
use Rattle.landmark_choice.specs.Farthest.{IsChoice, IsGreatestDistance}
use Rattle.landmark_choice.specs.Parts.{IsLargestPart}
use Rattle.landmark_choice.proofs.Fronts.{choices_fronts}
use Rattle.landmark_prep.specs.Packing.{Labels}
use Rattle.landmark_prep.specs.Preparations.{Preparation, nodes_of, grain_of, AreLabelsOf, IsPlacing, IsPrepOf}

one_start : (network : Network) (a b : ℕ) → IsLargestPart network a → IsLargestPart network b → a ≡ b
one_start network a b p q =
    let up = p.others b q.size q.within q.size_is in
    let down = q.others a p.size p.within p.size_is in
    elim up [
      | inl l ↦ elim down [ inl m ↦ absurd (omega arith) | inr m ↦ absurd (omega (arith, m.0)) ]
      | inr l ↦ elim down [ inl m ↦ absurd (omega (arith, l.0)) | inr m ↦ omega (arith, l.1, m.1) ]
    ]

one_greatest : (network : Network) (from a b : ℕ) → IsGreatestDistance network from a → IsGreatestDistance network from b → a ≡ b
one_greatest network from a b p q = omega (arith, p.greatest q.node b q.walk, q.greatest p.node a p.walk)

-- lists of the same length with the same labels
same_list : (xs ys : List (Option ℕ)) → length xs ≡ length ys → ((node : ℕ) → label_at xs node ≡ label_at ys node) → xs ≡ ys
same_list [] [] l s = refl
same_list [] (y ∷ ys) l s = absurd (omega arith)
same_list (x ∷ xs) [] l s = absurd (omega arith)
same_list (x ∷ xs) (y ∷ ys) l s =
    ap (λ (z : Option ℕ). z ∷ xs) (s 0) ∙ ap (λ (zs : List (Option ℕ)). y ∷ zs) (same_list xs ys (omega arith) (λ node. s (suc node)))

one_labels : (network : Network) (grain landmark : ℕ) (a b : Labels) → AreLabelsOf network grain landmark a → AreLabelsOf network grain landmark b → a ≡ b
one_labels network grain landmark a b p q =
    let f : a.from ≡ b.from = same_list a.from b.from (p.from_each ∙ sym q.from_each) (λ node. one_label (in_grains grain network) (65534 * grain) landmark node (label_at a.from node) (label_at b.from node) (p.from_it node) (q.from_it node)) in
    let t : a.to ≡ b.to = same_list a.to b.to (p.to_each ∙ sym q.to_each) (λ node. one_label (in_grains grain network) (65534 * grain) node landmark (label_at a.to node) (label_at b.to node) (p.to_it node) (q.to_it node)) in
    ap (λ (xs : List (Option ℕ)). record { from = xs; to = a.to }) f ∙ ap (λ (xs : List (Option ℕ)). record { from = b.from; to = xs }) t

all_labels : (network : Network) (grain : ℕ) (landmarks : List ℕ) (xs ys : List Labels) → AllZip (AreLabelsOf network grain) landmarks xs → AllZip (AreLabelsOf network grain) landmarks ys → xs ≡ ys
all_labels network grain [] [] [] p q = refl
all_labels network grain [] [] (y ∷ ys) p q = absurd q
all_labels network grain [] (x ∷ xs) ys p q = absurd p
all_labels network grain (l ∷ landmarks) [] ys p q = absurd p
all_labels network grain (l ∷ landmarks) (x ∷ xs) [] p q = absurd q
all_labels network grain (l ∷ landmarks) (x ∷ xs) (y ∷ ys) p q =
    ap (λ (z : Labels). z ∷ xs) (one_labels network grain l x y p.0 q.0) ∙ ap (λ (zs : List Labels). y ∷ zs) (all_labels network grain landmarks xs ys p.1 q.1)

pub same_parts : (a b : Preparation) → a.profile ≡ b.profile → a.snapshot ≡ b.snapshot → a.landmarks ≡ b.landmarks → a.grain ≡ b.grain → a.labels ≡ b.labels → a ≡ b
same_parts a b p s l g z =
    ap (λ (x : ℕ). record { profile = x; snapshot = a.snapshot; landmarks = a.landmarks; grain = a.grain; labels = a.labels }) p
    ∙ ap (λ (x : List ℕ). record { profile = b.profile; snapshot = x; landmarks = a.landmarks; grain = a.grain; labels = a.labels }) s
    ∙ ap (λ (x : List ℕ). record { profile = b.profile; snapshot = b.snapshot; landmarks = x; grain = a.grain; labels = a.labels }) l
    ∙ ap (λ (x : ℕ). record { profile = b.profile; snapshot = b.snapshot; landmarks = b.landmarks; grain = x; labels = a.labels }) g
    ∙ ap (λ (x : List Labels). record { profile = b.profile; snapshot = b.snapshot; landmarks = b.landmarks; grain = b.grain; labels = x }) z

pub one_placing : (network : Network) (count : ℕ) (landmarks others : List ℕ) (grain other : ℕ) → IsPlacing network count landmarks grain → IsPlacing network count others other → (landmarks ≡ others) × (grain ≡ other)
one_placing network count landmarks others grain other p q =
    let start : p.start ≡ q.start = one_start network p.start q.start p.start_is q.start_is in
    let choice : IsChoice network p.start count others = subst (λ (s : ℕ). IsChoice network s count others) (sym start) q.landmarks_are in
    let within = p.landmarks_are.within in
    let front : others ≡ take count landmarks = choices_fronts network p.start count count landmarks others (omega arith) p.landmarks_are choice in
    let far : p.far ≡ q.far = one_greatest network p.start p.far q.far p.far_is (subst (λ (s : ℕ). IsGreatestDistance network s q.far) (sym start) q.far_is) in
    (sym (front ∙ take_all count landmarks within), p.grain_is ∙ ap grain_of far ∙ sym q.grain_is)

pub one_preparation : (network : Network) (count : ℕ) (a b : Preparation) → IsPrepOf network count a → IsPrepOf network count b → a.profile ≡ b.profile → a.snapshot ≡ b.snapshot → a ≡ b
one_preparation network count a b p q profile snapshot =
    let placed = one_placing network count a.landmarks b.landmarks a.grain b.grain p.placing q.placing in
    let landmarks : a.landmarks ≡ b.landmarks = placed.0 in
    let grain : a.grain ≡ b.grain = placed.1 in
    let labels : a.labels ≡ b.labels = all_labels network a.grain a.landmarks a.labels b.labels p.labels_are (subst (λ (g : ℕ). AllZip (AreLabelsOf network g) a.landmarks b.labels) (sym grain) (subst (λ (ls : List ℕ). AllZip (AreLabelsOf network b.grain) ls b.labels) (sym landmarks) q.labels_are)) in
    same_parts a b profile snapshot landmarks grain labels

pub landmarks_count : (network : Network) (count : ℕ) (prep : Preparation) → IsPrepOf network count prep → IsPrepOf network (length prep.landmarks) prep
landmarks_count network count prep p =
    let placing = p.placing in
    record {
      placing = record {
        some = placing.some;
        start = placing.start;
        start_is = placing.start_is;
        landmarks_are = record { each = placing.landmarks_are.each; within = omega arith; ends = inl refl };
        far = placing.far;
        far_is = placing.far_is;
        grain_is = placing.grain_is;
      };
      labels_are = p.labels_are;
    }

labels_nodes : (network : Network) (grain : ℕ) (landmarks : List ℕ) (labels : List Labels) → 0 < length landmarks → AllZip (AreLabelsOf network grain) landmarks labels → nodes_of labels ≡ network.nodes
labels_nodes network grain [] labels some z = absurd (omega arith)
labels_nodes network grain (l ∷ landmarks) [] some z = absurd z
labels_nodes network grain (l ∷ landmarks) (x ∷ labels) some z = z.0.from_each

pub nodes_labelled : (network : Network) (count : ℕ) (prep : Preparation) → IsPrepOf network count prep → nodes_of prep.labels ≡ network.nodes
nodes_labelled network count prep p = labels_nodes network prep.grain prep.landmarks prep.labels p.placing.landmarks_are.each.some p.labels_are
