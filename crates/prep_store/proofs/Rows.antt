-- The numbers that stand for the labels of a list.
use Rattle.std.proofs.Common.{◌≡◌, ℕ, ◌<◌, All, Option, Some, None, unwrap_or, List, [], ◌∷◌, ◌++◌, length, slice_index, slice_set, suc, sym, subst, ap, ◌∙◌, inl, inr, arith}
use Rattle.std.proofs.lemmas.List.{length-set, get_or-set_same, get_or-set_other}
use Rattle.std.proofs.lemmas.List.Elements.{All-nil, All-cons, All-append}
use Rattle.walk_rules.proofs.Options.{some_or_none}
use Rattle.prep_store.specs.declared.item.Item.{Item}
use Rattle.prep_store.specs.Evidence.{label_in}
use Rattle.prep_store.specs.Steps.{IsItem, IsRow, number_in}
use Rattle.prep_store.proofs.Lookups.{label_here, label_past, label_push_other, label_push_new, same_or_not, no_some}

-- a listed node is one of the nodes, with a label
pub listed_within : (nodes : ℕ) (items : List Item) (node label : ℕ) → All (IsItem nodes) items → label_in items node ≡ Some label → (node < nodes) × (label < 65535)
listed_within nodes [] node label all e = absurd (no_some e)
listed_within nodes (x ∷ xs) node label all e = elim (same_or_not x.node.0 node) [
  | inl s ↦
      let at = all 0 x (omega arith) in
      let same : x.label ≡ label = cc (label_here x xs node s) in
      (omega (arith, at.node), omega (arith, at.label))
  | inr n ↦ listed_within nodes xs node label (λ k d l. all (suc k) d (omega arith)) (sym (label_past x xs node n) ∙ e)
]

pub none_by_number : (nodes : ℕ) (items : List Item) (node : ℕ) → All (IsItem nodes) items → number_in items node ≡ 65535 → label_in items node ≡ None
none_by_number nodes items node all e = elim (some_or_none (label_in items node)) [
  | inr n ↦ n
  | inl s ↦
      let small = listed_within nodes items node s.0 all s.1 in
      let same : number_in items node ≡ s.0 = ap (λ (o : Option ℕ). unwrap_or o 65535) s.1 in
      absurd (omega (arith, small.1))
]

pub row_pushed : (row : List ℕ) (items : List Item) (item : Item) → IsRow row items → item.node.0 < length row → item.label < 65535 → label_in items item.node.0 ≡ None → IsRow (slice_set row item.node.0 item.label) (items ++ item ∷ [])
row_pushed row items item r n l new =
    let long : length (slice_set row item.node.0 item.label) ≡ length row = length-set row item.node.0 item.label in
    record {
      each = λ node h. elim (same_or_not item.node.0 node) [
        | inl s ↦
            let set : slice_index (slice_set row item.node.0 item.label) item.node.0 ≡ item.label = get_or-set_same row item.node.0 item.label 0 n in
            let number : number_in (items ++ item ∷ []) item.node.0 ≡ item.label = ap (λ (o : Option ℕ). unwrap_or o 65535) (label_push_new items item new) in
            subst (λ (m : ℕ). slice_index (slice_set row item.node.0 item.label) m ≡ number_in (items ++ item ∷ []) m) s (set ∙ sym number)
        | inr other ↦
            get_or-set_other row item.node.0 node item.label 0 (λ e. other (sym e))
            ∙ (r.each node (omega (arith, long)) ∙ sym (ap (λ (o : Option ℕ). unwrap_or o 65535) (label_push_other items item node other)))
      ];
      are_items = subst (λ (k : ℕ). All (IsItem k) (items ++ item ∷ [])) (sym long)
          (All-append (IsItem (length row)) items (item ∷ []) r.are_items (All-cons (IsItem (length row)) item [] (record { node = n; label = l }) (All-nil (IsItem (length row)))));
    }
