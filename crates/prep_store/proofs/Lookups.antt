-- The labels that a list has for nodes.
use Rattle.std.specs.Prelude.{◌==◌}
use Rattle.std.proofs.Common.{◌≡◌, ℕ, ◌⊎◌, true, false, Some, None, List, [], ◌∷◌, ◌++◌, Contains, suc, refl, sym, ◌∙◌, inl, inr, arith}
use Rattle.std.proofs.lemmas.Bool.{cases_Bool}
use Rattle.std.proofs.lemmas.Bool.Decides.{nat_tests}
use Rattle.prep_store.specs.declared.item.Item.{Item}
use Rattle.prep_store.specs.Evidence.{label_in}

-- the front item, where it is the node's, and where it isn't
pub label_here : (item : Item) (items : List Item) (node : ℕ) → item.node.0 ≡ node → label_in (item ∷ items) node ≡ Some item.label
label_here item items node e = let t : (item.node.0 == node) ≡ true = grind (arith, nat_tests) in rw t refl

pub label_past : (item : Item) (items : List Item) (node : ℕ) → (item.node.0 ≡ node → ⊥) → label_in (item ∷ items) node ≡ label_in items node
label_past item items node n = let f : (item.node.0 == node) ≡ false = grind (arith, nat_tests) in rw f refl

pub same_or_not : (n m : ℕ) → (n ≡ m) ⊎ (n ≡ m → ⊥)
same_or_not n m = elim (cases_Bool (n == m)) [
  | inl t ↦ inl (grind (arith, nat_tests))
  | inr f ↦ inr (λ e. grind (arith, nat_tests))
]

pub no_some : {A : Type 0} {x : A} → None ≡ Some x → ⊥
no_some e = absurd (cc)

-- the label in a list with one more item is that of the front, or the last item's
pub label_push_cases : (xs : List Item) (item : Item) (node label : ℕ) → label_in (xs ++ item ∷ []) node ≡ Some label →
    (label_in xs node ≡ Some label) ⊎ ((item.node.0 ≡ node) × (item.label ≡ label))
label_push_cases [] item node label e = elim (same_or_not item.node.0 node) [
  | inl s ↦ inr (s, cc (label_here item [] node s))
  | inr n ↦ absurd (no_some (sym (label_past item [] node n) ∙ e))
]
label_push_cases (x ∷ xs) item node label e = elim (same_or_not x.node.0 node) [
  | inl s ↦ inl (label_here x xs node s ∙ (sym (label_here x (xs ++ item ∷ []) node s) ∙ e))
  | inr n ↦ elim (label_push_cases xs item node label (sym (label_past x (xs ++ item ∷ []) node n) ∙ e)) [
    | inl l ↦ inl (label_past x xs node n ∙ l)
    | inr r ↦ inr r
  ]
]

-- a node with a label has an item
pub label_found : (xs : List Item) (node label : ℕ) → label_in xs node ≡ Some label → (item : Item) × Contains xs item × (item.node.0 ≡ node)
label_found [] node label e = absurd (no_some e)
label_found (x ∷ xs) node label e = elim (same_or_not x.node.0 node) [
  | inl s ↦ (x, (0, omega arith, refl), s)
  | inr n ↦
      let rest = label_found xs node label (sym (label_past x xs node n) ∙ e) in
      (rest.0, (suc rest.1.0, omega (arith, rest.1.1), rest.1.2), rest.2)
]

-- the label in a list with one more item, where the front has one, where the item is another node's, and where it is new
pub label_push_front : (xs : List Item) (item : Item) (node label : ℕ) → label_in xs node ≡ Some label → label_in (xs ++ item ∷ []) node ≡ Some label
label_push_front [] item node label e = absurd (no_some e)
label_push_front (x ∷ xs) item node label e = elim (same_or_not x.node.0 node) [
  | inl s ↦ label_here x (xs ++ item ∷ []) node s ∙ (sym (label_here x xs node s) ∙ e)
  | inr n ↦ label_past x (xs ++ item ∷ []) node n ∙ label_push_front xs item node label (sym (label_past x xs node n) ∙ e)
]

pub label_push_other : (xs : List Item) (item : Item) (node : ℕ) → (item.node.0 ≡ node → ⊥) → label_in (xs ++ item ∷ []) node ≡ label_in xs node
label_push_other [] item node n = label_past item [] node n
label_push_other (x ∷ xs) item node n = elim (same_or_not x.node.0 node) [
  | inl s ↦ label_here x (xs ++ item ∷ []) node s ∙ sym (label_here x xs node s)
  | inr m ↦ label_past x (xs ++ item ∷ []) node m ∙ (label_push_other xs item node n ∙ sym (label_past x xs node m))
]

pub label_push_new : (xs : List Item) (item : Item) → label_in xs item.node.0 ≡ None → label_in (xs ++ item ∷ []) item.node.0 ≡ Some item.label
label_push_new [] item e = label_here item [] item.node.0 refl
label_push_new (x ∷ xs) item e = elim (same_or_not x.node.0 item.node.0) [
  | inl s ↦ absurd (no_some (sym e ∙ label_here x xs item.node.0 s))
  | inr n ↦ label_past x (xs ++ item ∷ []) item.node.0 n ∙ label_push_new xs item (sym (label_past x xs item.node.0 n) ∙ e)
]
