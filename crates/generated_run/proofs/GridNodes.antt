-- Nodes of the grid: their ids differ, and each is found by its id.
use Rattle.std.proofs.Common.{◌≡◌, ◌∙◌, ℕ, zero, suc, ◌+◌, ◌*◌, ◌/◌, ◌%◌, ◌<◌, ◌≤◌, ℤ, pos, Bool, true, false, List, [], ◌∷◌, ◌++◌, map, Some, None, inl, inr, ap, sym, subst, refl, arith, zero-add}
use Rattle.std.specs.List.{range_with_len}
use Rattle.std.specs.Ordering.{int_eq}
use Rattle.std.proofs.Math.Nat.{div-add-mod}
use Rattle.std.proofs.lemmas.Bool.{cases_lt}
use Rattle.std.proofs.lemmas.List.FromFn.{map-range_with_len_more}
use Rattle.gh_base.specs.declared.map.OsmNode.{OsmNode}
use Rattle.map_import.specs.Roads.{place_in}
use Rattle.map_import.specs.Refusals.{first_twice, twice_behind}
use Rattle.map_import.proofs.Numbers.{same_id, id_is_itself}
use Rattle.generated_run.specs.Maps.{node_at}

not_true : (b : Bool) → (b ≡ true → ⊥) → b ≡ false
not_true true never = absurd (never refl)
not_true false never = refl

pub differ : (a b : ℤ) → (a ≡ b → ⊥) → int_eq a b ≡ false
differ a b never = not_true (int_eq a b) (λ t. never (same_id a b t))

pub pos_differ : (a b : ℕ) → a < b → pos a ≡ pos b → ⊥
pos_differ a b lt e = let same : a ≡ b = cc in omega arith

pub number_of : (size n : ℕ) → n / size * size + n % size + 1 ≡ n + 1
number_of size n = let e = div-add-mod n size in omega (arith, e)

head_found : (node : OsmNode) (nodes : List OsmNode) (id : ℤ) → int_eq node.id id ≡ true → place_in (node ∷ nodes) id ≡ Some node.place
head_found node nodes id is = rw is refl

head_passed : (node : OsmNode) (nodes : List OsmNode) (id : ℤ) → int_eq node.id id ≡ false → place_in (node ∷ nodes) id ≡ place_in nodes id
head_passed node nodes id is = rw is refl

id_is : (size n : ℕ) → (node_at size n).id ≡ pos (n + 1)
id_is size n = ap pos (number_of size n)

-- a node that is there
pub node_there : (size a k n : ℕ) → a ≤ n → n < a + k → place_in (map (node_at size) (range_with_len a k)) (pos (n + 1)) ≡ Some (node_at size n).place
node_there size a zero n low below = absurd (omega arith)
node_there size a (suc k) n low below = elim (cases_lt a n) [
  | inl lt ↦
      head_passed (node_at size a) (map (node_at size) (range_with_len (a + 1) k)) (pos (n + 1))
      (differ (node_at size a).id (pos (n + 1)) (λ e. pos_differ (a + 1) (n + 1) (omega arith) (sym (id_is size a) ∙ e)))
      ∙ node_there size (a + 1) k n (omega arith) (omega arith)
  | inr le ↦
      let same : a ≡ n = omega arith in
      let here : int_eq (node_at size a).id (pos (n + 1)) ≡ true =
      subst (λ z. int_eq z (pos (n + 1)) ≡ true) (sym (id_is size a ∙ ap (λ m. pos (m + 1)) same)) (id_is_itself (pos (n + 1))) in
      head_found (node_at size a) (map (node_at size) (range_with_len (a + 1) k)) (pos (n + 1)) here ∙ ap (λ m. Some (node_at size m).place) same
]

-- and one that is not
node_absent : (size a k n : ℕ) → a + k ≤ n → place_in (map (node_at size) (range_with_len a k)) (pos (n + 1)) ≡ None
node_absent size a zero n above = refl
node_absent size a (suc k) n above =
    head_passed (node_at size a) (map (node_at size) (range_with_len (a + 1) k)) (pos (n + 1))
    (differ (node_at size a).id (pos (n + 1)) (λ e. pos_differ (a + 1) (n + 1) (omega arith) (sym (id_is size a) ∙ e)))
    ∙ node_absent size (a + 1) k n (omega arith)

new_node : (before : List OsmNode) (node : OsmNode) (nodes : List OsmNode) → place_in before node.id ≡ None → twice_behind before (node ∷ nodes) ≡ twice_behind (before ++ node ∷ []) nodes
new_node before node nodes is = rw is refl

once_behind : (size a k : ℕ) → twice_behind (map (node_at size) (range_with_len 0 a)) (map (node_at size) (range_with_len a k)) ≡ None
once_behind size a zero = refl
once_behind size a (suc k) =
    let rest : List OsmNode = map (node_at size) (range_with_len (a + 1) k) in
    new_node (map (node_at size) (range_with_len 0 a)) (node_at size a) rest (ap (place_in (map (node_at size) (range_with_len 0 a))) (id_is size a) ∙ node_absent size 0 a a (omega arith))
    ∙ ap (λ (before : List OsmNode). twice_behind before rest) (sym (map-range_with_len_more (node_at size) 0 a a (zero-add a)))
    ∙ once_behind size (a + 1) k

-- no id stands twice
pub nodes_once : (size count : ℕ) → first_twice (map (node_at size) (range_with_len 0 count)) ≡ None
nodes_once size count = once_behind size 0 count
