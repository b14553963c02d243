-- Bounds in grains stand for those in ms.
use Rattle.std.specs.Prelude.{nat_lt, ◌==◌, ◌≢◌}
use Rattle.std.proofs.Common.{◌≡◌, ℕ, ◌*◌, ◌-◌, ◌≤◌, max, false, Option, Some, None, refl, sym, ap, ◌∙◌, inl, inr, arith}
use Rattle.std.proofs.Math.Nat.{mul-sub, mul-le-mul_left}
use Rattle.std.proofs.lemmas.Bool.{cases_Bool}
use Rattle.std.proofs.lemmas.Bool.Decides.{nat_tests}
use Rattle.walk_rules.specs.Distances.{label_at}
use Rattle.landmark_prep.specs.Packing.{Labels, unpacked, in_ms}
use Rattle.landmark_prep.specs.Bounds.{over, greater, bound_of}

label_of : (grain number : ℕ) → number ≢ 65535 → unpacked grain number ≡ Some (grain * number)
label_of grain number some = let e : (number == 65535) ≡ false = grind (arith, nat_tests) in rw e refl

-- nothing is over no label
pub over_first : (grain first : ℕ) (second : Option ℕ) → first ≡ 65535 → Some (grain * 0) ≡ over (unpacked grain first) second
over_first grain first second e = rw e (ap Some (omega arith))

pub over_second : (grain first second : ℕ) → first ≢ 65535 → second ≡ 65535 → None ≡ over (unpacked grain first) (unpacked grain second)
over_second grain first second some e = rw (label_of grain first some, e) refl

-- a difference of grains
pub over_both : (grain first second : ℕ) → first ≢ 65535 → second ≢ 65535 → Some (grain * (second - first)) ≡ over (unpacked grain first) (unpacked grain second)
over_both grain first second f s = rw (label_of grain first f, label_of grain second s) (ap Some (mul-sub grain second first))

max_scaled : (grain x y : ℕ) → grain * max x y ≡ max (grain * x) (grain * y)
max_scaled grain x y = elim (cases_Bool (nat_lt x y)) [
  | inl t ↦
      let below : x ≤ y = grind (arith, nat_tests) in
      let e : max x y ≡ y = omega arith in
      let l : grain * x ≤ grain * y = mul-le-mul_left grain below in
      rw e (omega arith)
  | inr f ↦
      let above : y ≤ x = grind (arith, nat_tests) in
      let e : max x y ≡ x = omega arith in
      let l : grain * y ≤ grain * x = mul-le-mul_left grain above in
      rw e (omega arith)
]

greater_scaled : (grain : ℕ) (first second : Option ℕ) → in_ms grain (greater first second) ≡ greater (in_ms grain first) (in_ms grain second)
greater_scaled grain None second = refl
greater_scaled grain (Some x) None = refl
greater_scaled grain (Some x) (Some y) = ap Some (max_scaled grain x y)

both_same : (f : Option ℕ → Option ℕ → Option ℕ) (a b c d : Option ℕ) → a ≡ c → b ≡ d → f a b ≡ f c d
both_same f a b c d e h = cc

-- what a landmark says, from the numbers of grains of a node and of the target
pub grains_of_one : (grain : ℕ) (labels : Labels) (node target : ℕ) (from_node from_target to_node to_target : ℕ) (away home result : Option ℕ)
    → unpacked grain from_node ≡ label_at labels.from node → unpacked grain from_target ≡ label_at labels.from target
    → unpacked grain to_node ≡ label_at labels.to node → unpacked grain to_target ≡ label_at labels.to target
    → in_ms grain away ≡ over (unpacked grain from_node) (unpacked grain from_target)
    → in_ms grain home ≡ over (unpacked grain to_target) (unpacked grain to_node)
    → result ≡ greater away home → in_ms grain result ≡ bound_of labels node target
grains_of_one grain labels node target from_node from_target to_node to_target away home result fn ft tn tt' a h r =
    let there : in_ms grain away ≡ over (label_at labels.from node) (label_at labels.from target) =
    a ∙ both_same over (unpacked grain from_node) (unpacked grain from_target) (label_at labels.from node) (label_at labels.from target) fn ft in
    let back : in_ms grain home ≡ over (label_at labels.to target) (label_at labels.to node) =
    h ∙ both_same over (unpacked grain to_target) (unpacked grain to_node) (label_at labels.to target) (label_at labels.to node) tt' tn in
    ap (in_ms grain) r ∙ (greater_scaled grain away home
    ∙ both_same greater (in_ms grain away) (in_ms grain home) (over (label_at labels.from node) (label_at labels.from target)) (over (label_at labels.to target) (label_at labels.to node)) there back)

-- the greatest so far, with what the rest says: at first it is 0
pub greatest_first : (grain : ℕ) (all : Option ℕ) → all ≡ greater (Some (grain * 0)) all
greatest_first grain None = refl
greatest_first grain (Some x) = ap Some (omega arith)

-- and after one more
pub greatest_next : (grain most here : ℕ) (all one rest : Option ℕ) → all ≡ greater (Some (grain * most)) (greater one rest) → Some (grain * here) ≡ one → all ≡ greater (Some (grain * max here most)) rest
greatest_next grain most here all one None e o = e ∙ ap (λ (x : Option ℕ). greater (Some (grain * most)) (greater x None)) (sym o)
greatest_next grain most here all one (Some y) e o =
    e ∙ (ap (λ (x : Option ℕ). greater (Some (grain * most)) (greater x (Some y))) (sym o)
    ∙ ap Some (let m = max_scaled grain here most in omega arith))

-- and at the end nothing is left
pub greatest_last : (grain most : ℕ) (all : Option ℕ) → all ≡ greater (Some (grain * most)) (Some 0) → Some (grain * most) ≡ all
greatest_last grain most all e = let top : grain * most ≡ max (grain * most) 0 = omega arith in ap Some top ∙ sym e
