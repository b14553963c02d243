-- Lists that are evidence have no fault.
use Rattle.std.specs.List.{IsDistinct, AllByRecursion, list_any}
use Rattle.std.proofs.Common.{◌≡◌, ℕ, ◌<◌, ◌≤◌, ◌^◌, true, false, eqb, Some, None, List, [], ◌∷◌, ◌++◌, map, length, Contains, suc, refl, sym, subst, ap, ◌∙◌, inl, inr, append_assoc, arith}
use Rattle.std.proofs.lemmas.Bool.{cases_Bool, eqb-true}
use Rattle.std.proofs.lemmas.Bool.Decides.{nat_tests}
use Rattle.std.proofs.lemmas.List.{length-map, append-nil}
use Rattle.std.proofs.lemmas.Map.Steps.{length-le_from_distinct_below}
use Rattle.byteorder.specs.Endian.{big_bytes}
use Rattle.gh_base.specs.Networks.{Network, LeadsToNodes}
use Rattle.prep_store.specs.declared.fault.PrepFault.{PrepFault}
use Rattle.prep_store.specs.declared.item.Item.{Item}
use Rattle.prep_store.specs.declared.item.Which.{Which}
use Rattle.prep_store.specs.Evidence.{label_in, MayFollow, MayAllFollow, IsEvidence, IsFirstOpen}
use Rattle.prep_store.specs.Stores.{item_text, items_text, list_text}
use Rattle.prep_store.specs.FirstFaults.{FailsInItems, FailsInList}
use Rattle.prep_store.proofs.Lookups.{label_push_new, label_push_front, no_some}
use Rattle.store_laws.proofs.Parsing.{number_same}

-- items of nodes below a number, with labels that fit
abbrev AreSmall : ℕ → List Item → Type 0
AreSmall nodes [] = Unit {0}
AreSmall nodes (x ∷ xs) = (x.node.0 < nodes) × (x.label < 65536) × AreSmall nodes xs

module _ (network : Network) (grain landmark : ℕ) (leads : LeadsToNodes network) (there : landmark < network.nodes) where
  item_small : (before : List Item) (item : Item) → MayFollow network grain landmark before item → (item.node.0 < network.nodes) × (item.label < 65536)
  item_small [] item f = (omega (arith, f.0), omega (arith, f.1))
  item_small (x ∷ before) item f = let r = f.1 in (omega (arith, r.leads, leads r.node r.hop r.leaves), omega (arith, r.gives))

  all_small : (before items : List Item) → MayAllFollow network grain landmark before items → AreSmall network.nodes items
  all_small before [] f = tt
  all_small before (x ∷ items) f = let here = item_small before x f.0 in (here.0, here.1, all_small (before ++ x ∷ []) items f.1)

  new_of : (before : List Item) (item : Item) → MayFollow network grain landmark before item → label_in before item.node.0 ≡ None
  new_of [] item f = refl
  new_of (x ∷ before) item f = f.0

  fresh : (before items : List Item) (node label : ℕ) → MayAllFollow network grain landmark before items → label_in before node ≡ Some label → AllByRecursion (λ y. eqb node y ≡ false) (map (λ i. i.node.0) items)
  fresh before [] node label f e = tt
  fresh before (x ∷ items) node label f e =
      let rest = fresh (before ++ x ∷ []) items node label f.1 (label_push_front before x node label e) in
      let other : node ≡ x.node.0 → ⊥ = λ s. no_some (sym (new_of before x f.0) ∙ (ap (label_in before) (sym s) ∙ e)) in
      let apart : eqb node x.node.0 ≡ false = grind (arith, nat_tests, other) in
      (apart, rest)

  distinct : (before items : List Item) → MayAllFollow network grain landmark before items → IsDistinct eqb (map (λ i. i.node.0) items)
  unfolding IsDistinct
  distinct before [] f = tt
  distinct before (x ∷ items) f =
      (fresh (before ++ x ∷ []) items x.node.0 x.label f.1 (label_push_new before x (new_of before x f.0)), distinct (before ++ x ∷ []) items f.1)

  below : (items : List Item) → AreSmall network.nodes items → (q : ℕ) → list_any (eqb q) (map (λ i. i.node.0) items) ≡ true → q < network.nodes
  below [] f q e = absurd (cc)
  below (x ∷ items) f q e = elim (cases_Bool (eqb q x.node.0)) [
    | inl t ↦ let same : q ≡ x.node.0 = eqb-true q x.node.0 t in omega (arith, same, f.0)
    | inr n ↦ below items f.2 q (rw n at e)
  ]

  -- no more items than nodes
  few_items : (items : List Item) → MayAllFollow network grain landmark [] items → length items ≤ network.nodes
  few_items items f = omega (
    arith,
    length-map items (λ (i : Item). i.node.0),
    length-le_from_distinct_below (map (λ i. i.node.0) items) network.nodes (distinct [] items f) (below items (all_small [] items f)),
  )

same_item : (a b : Item) (r s : List ℕ) → a.node.0 < 2 ^ 32 → a.label < 65536 → b.node.0 < 2 ^ 32 → b.label < 65536 → item_text a ++ r ≡ item_text b ++ s → (a ≡ b) × (r ≡ s)
same_item a b r s an al bn bl e =
    let node = number_same 4 a.node.0 b.node.0 (big_bytes 2 a.label ++ r) (big_bytes 2 b.label ++ s) an bn e in
    let label = number_same 2 a.label b.label r s al bl node.1 in
    let is : a ≡ b = ap (λ (x : ℕ). record { node = record { 0 = x }; label = a.label }) node.0 ∙ ap (λ (y : ℕ). record { node = b.node; label = y }) label.0 in
    (is, label.1)

-- items that are fewer are the front of the others
items_front : (nodes : ℕ) (right items : List Item) (x y : List ℕ) → nodes ≤ 4294967295 → AreSmall nodes right → AreSmall nodes items → length right < length items → items_text right ++ x ≡ items_text items ++ y →
    (i : Item) × (rest : List Item) × (items ≡ right ++ i ∷ rest) × (x ≡ item_text i ++ (items_text rest ++ y)) × (i.node.0 < 2 ^ 32) × (i.label < 65536)
items_front nodes [] [] x y few p q l e = absurd (omega arith)
items_front nodes [] (i ∷ items) x y few p q l e = (i, items, refl, e ∙ append_assoc (item_text i) (items_text items) y, omega (arith, q.0), q.1)
items_front nodes (a ∷ right) [] x y few p q l e = absurd (omega arith)
items_front nodes (a ∷ right) (b ∷ items) x y few p q l e =
    let split : item_text a ++ (items_text right ++ x) ≡ item_text b ++ (items_text items ++ y) = sym (append_assoc (item_text a) (items_text right) x) ∙ (e ∙ append_assoc (item_text b) (items_text items) y) in
    let same = same_item a b (items_text right ++ x) (items_text items ++ y) (omega (arith, p.0)) p.1 (omega (arith, q.0)) q.1 split in
    let rest = items_front nodes right items x y few p.2 q.2 (omega arith) same.1 in
    (rest.0, rest.1, ap (λ (z : Item). z ∷ items) (sym same.0) ∙ ap (λ (zs : List Item). a ∷ zs) rest.2, rest.3, rest.4, rest.5)

items_same : (nodes : ℕ) (xs ys : List Item) (r s : List ℕ) → nodes ≤ 4294967295 → AreSmall nodes xs → AreSmall nodes ys → length xs ≡ length ys → items_text xs ++ r ≡ items_text ys ++ s → (xs ≡ ys) × (r ≡ s)
items_same nodes [] [] r s few p q l e = (refl, e)
items_same nodes [] (y ∷ ys) r s few p q l e = absurd (omega arith)
items_same nodes (x ∷ xs) [] r s few p q l e = absurd (omega arith)
items_same nodes (x ∷ xs) (y ∷ ys) r s few p q l e =
    let split : item_text x ++ (items_text xs ++ r) ≡ item_text y ++ (items_text ys ++ s) = sym (append_assoc (item_text x) (items_text xs) r) ∙ (e ∙ append_assoc (item_text y) (items_text ys) s) in
    let same = same_item x y (items_text xs ++ r) (items_text ys ++ s) (omega (arith, p.0)) p.1 (omega (arith, q.0)) q.1 split in
    let rest = items_same nodes xs ys r s few p.2 q.2 (omega arith) same.1 in
    (ap (λ (z : Item). z ∷ xs) same.0 ∙ ap (λ (zs : List Item). y ∷ zs) rest.0, rest.1)

follow_at : (network : Network) (grain landmark : ℕ) (before right : List Item) (i : Item) (rest : List Item) → MayAllFollow network grain landmark before (right ++ i ∷ rest) → MayFollow network grain landmark (before ++ right) i
follow_at network grain landmark before [] i rest f = subst (λ (xs : List Item). MayFollow network grain landmark xs i) (sym (append-nil before)) f.0
follow_at network grain landmark before (x ∷ right) i rest f =
    subst (λ (xs : List Item). MayFollow network grain landmark xs i) (append_assoc before (x ∷ []) right) (follow_at network grain landmark (before ++ x ∷ []) right i rest f.1)

contains_middle : (before : List Item) (item : Item) (after : List Item) → Contains (before ++ item ∷ after) item
contains_middle [] item after = (0, omega arith, refl)
contains_middle (x ∷ before) item after = let c = contains_middle before item after in (suc c.0, omega (arith, c.1), c.2)

module _ (network : Network) (grain landmark : ℕ) (leads : LeadsToNodes network) (there : landmark < network.nodes) (few : network.nodes ≤ 4294967295) where
  -- lists that are evidence are as long as they say
  word_of : (items : List Item) → MayAllFollow network grain landmark [] items → length items < 256 ^ 4
  word_of items f = omega (arith, few_items network grain landmark leads there items f, few)

  pub list_same : (xs ys : List Item) (r s : List ℕ) → MayAllFollow network grain landmark [] xs → MayAllFollow network grain landmark [] ys → list_text xs ++ r ≡ list_text ys ++ s → (xs ≡ ys) × (r ≡ s)
  list_same xs ys r s f h e =
      let count = number_same 4 (length xs) (length ys) (items_text xs ++ r) (items_text ys ++ s) (word_of xs f) (word_of ys h) e in
      items_same network.nodes xs ys r s few (all_small network grain landmark leads there [] xs f) (all_small network grain landmark leads there [] ys h) count.0 count.1

  no_items_fault : (which : Which) (items : List Item) (r : List ℕ) (total : ℕ) (fault : PrepFault) → MayAllFollow network grain landmark [] items → FailsInItems network grain landmark which (length items) total (items_text items ++ r) fault → ⊥
  no_items_fault which items r total fault order f =
      let split = items_front network.nodes f.right items f.after r few (all_small network grain landmark leads there [] f.right f.order) (all_small network grain landmark leads there [] items order) f.fewer (sym f.bytes) in
      let follows : MayFollow network grain landmark f.right split.0 = follow_at network grain landmark [] f.right split.0 split.1 (subst (λ (xs : List Item). MayAllFollow network grain landmark [] xs) split.2 order) in
      elim f.fails [
        | inl cut ↦ absurd (omega (arith, cut.short, ap (λ (xs : List ℕ). length xs) split.3))
        | inr o ↦
            let same = same_item split.0 o.0 (items_text split.1 ++ r) o.4.0 split.4 split.5 o.1 o.2 (sym split.3 ∙ o.4.1) in
            o.3 (subst (λ (i : Item). MayFollow network grain landmark f.right i) same.0 follows)
      ]

  pub no_list_fault : (which : Which) (items : List Item) (r : List ℕ) (total : ℕ) (fault : PrepFault) → IsEvidence network grain landmark items → FailsInList network grain landmark which total (list_text items ++ r) fault → ⊥
  no_list_fault which items r total fault evidence (inl cut) = absurd (omega (arith, cut.short))
  no_list_fault which items r total fault evidence (inr (inl (count, word, (after, e, h)))) =
      let same = number_same 4 (length items) count (items_text items ++ r) after (word_of items evidence.order) word e in
      elim h [
        | inl empty ↦ absurd (omega (arith, empty.0, same.0, evidence.some))
        | inr f ↦ no_items_fault which items r total fault evidence.order
            (subst (λ (n : ℕ). FailsInItems network grain landmark which n total (items_text items ++ r) fault) (sym same.0)
            (subst (λ (xs : List ℕ). FailsInItems network grain landmark which count total xs fault) (sym same.1) f))
      ]
  no_list_fault which items r total fault evidence (inr (inr o)) =
      let same = list_same items o.items r o.after evidence.order o.order o.bytes in
      let open_here : IsFirstOpen network grain items o.edge = subst (λ (xs : List Item). IsFirstOpen network grain xs o.edge) (sym same.0) o.opens in
      let item = open_here.item in
      let inside : Contains items item = subst (λ (xs : List Item). Contains xs item) (sym open_here.split) (contains_middle open_here.before item open_here.after) in
      let shut = evidence.closed item inside open_here.at.hop open_here.at.leaves in
      let opens = open_here.at.opens in
      absurd (cc)
