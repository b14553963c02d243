-- Different numbers of grains stand for different labels.
use Rattle.std.specs.Prelude.{◌==◌}
use Rattle.std.proofs.Common.{◌≡◌, ℕ, ◌*◌, ◌/◌, ◌≤◌, eqb, Decides, Some, None, List, [], ◌∷◌, map, refl, sym, ap, ◌∙◌, inl, inr}
use Rattle.std.proofs.lemmas.Bool.{cases_Bool, eqb-true}
use Rattle.std.proofs.lemmas.Bool.Decides.{Decides-eqb}
use Rattle.std.proofs.Math.Nat.{mul-div_cancel_left}
use Rattle.gh_base.specs.declared.edges.NodeId.{NodeId}
use Rattle.landmark_prep.specs.declared.labels.PackedLabels.{PackedLabels}
use Rattle.landmark_prep.specs.Packing.{Labels, unpacked, unpacked_labels}

-- lists are the same whose items have the same values, where those are different for different items
same_list : {A B : Type 0} (f : A → B) → ((x y : A) → f x ≡ f y → x ≡ y) → (xs ys : List A) → map f xs ≡ map f ys → xs ≡ ys
same_list f one [] [] e = refl
same_list f one [] (y ∷ ys) e = absurd (cc)
same_list f one (x ∷ xs) [] e = absurd (cc)
same_list f one (x ∷ xs) (y ∷ ys) e =
    let here = one x y (cc) in
    let rest = same_list f one xs ys (cc) in
    cc

same_grains : (grain x y : ℕ) → 1 ≤ grain → grain * x ≡ grain * y → x ≡ y
same_grains grain x y fine e = sym (mul-div_cancel_left x fine) ∙ ap (λ (n : ℕ). n / grain) e ∙ mul-div_cancel_left y fine

same_number : (grain : ℕ) → 1 ≤ grain → (x y : ℕ) → unpacked grain x ≡ unpacked grain y → x ≡ y
same_number grain fine x y e = elim (cases_Bool (x == 65535)) [
  | inl t ↦ elim (cases_Bool (y == 65535)) [
    | inl u ↦ eqb-true x 65535 t ∙ sym (eqb-true y 65535 u)
    | inr u ↦ absurd (let n : None ≡ Some (grain * y) = rw (t, u) at e in cc)
  ]
  | inr t ↦ elim (cases_Bool (y == 65535)) [
    | inl u ↦ absurd (let n : Some (grain * x) ≡ None = rw (t, u) at e in cc)
    | inr u ↦ let n : Some (grain * x) ≡ Some (grain * y) = rw (t, u) at e in same_grains grain x y fine (cc)
  ]
]

same_labels : (grain : ℕ) → 1 ≤ grain → (x y : PackedLabels) → unpacked_labels grain x ≡ unpacked_labels grain y → x ≡ y
same_labels grain fine x y e =
    let from = same_list (unpacked grain) (same_number grain fine) x.from y.from (ap (λ (l : Labels). l.from) e) in
    let to = same_list (unpacked grain) (same_number grain fine) x.to y.to (ap (λ (l : Labels). l.to) e) in
    ap (λ (xs : List ℕ). record { from = xs; to = x.to }) from ∙ ap (λ (xs : List ℕ). record { from = y.from; to = xs }) to

pub same_table : (grain : ℕ) (xs ys : List PackedLabels) → 1 ≤ grain → map (unpacked_labels grain) xs ≡ map (unpacked_labels grain) ys → xs ≡ ys
same_table grain xs ys fine e = same_list (unpacked_labels grain) (same_labels grain fine) xs ys e

same_node : (x y : NodeId) → x.0 ≡ y.0 → x ≡ y
same_node x y e = let node : ℕ → NodeId = λ n. record { 0 = n } in ap node e

-- nodes are the same that have one number
pub node_by_number : (x y : NodeId) → Decides (eqb x.0 y.0) (x ≡ y)
node_by_number x y =
    let number = Decides-eqb x.0 y.0 in
    (λ t. same_node x y (number.0 t), λ e. number.1 (ap (λ (node : NodeId). node.0) e))

pub same_nodes : (xs ys : List NodeId) → map (λ node. node.0) xs ≡ map (λ node. node.0) ys → xs ≡ ys
same_nodes xs ys e = same_list (λ (node : NodeId). node.0) same_node xs ys e
