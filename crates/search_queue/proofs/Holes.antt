-- Items and places of a heap, where a free place is filled with an item.
use Rattle.std.proofs.Common.{◌≡◌, ◌≢◌, ℕ, ◌+◌, ◌<◌, ◌≤◌, Option, Some, None, List, length, length-set, zero, suc, sym, ap, subst, ◌∙◌, refl, inl, inr, arith}
use Rattle.std.specs.Prelude.{slice_set}
use Rattle.std.proofs.lemmas.Bool.{cases_eq, cases_lt}
use Rattle.std.proofs.lemmas.List.{get_or-set_same, get_or-set_other, get_or-map, get_or_past, length-map, ext_get_or}
use Rattle.search_queue.specs.declared.heap.Item.{Item}
use Rattle.search_queue.specs.Keys.{key_at}
use Rattle.search_queue.specs.Heaps.{item_at, rank, node_at, place_of, key_in, keys_in, ArePaired, IsHoled, IsBelow, AreOrdered, MayRise, MaySink}
use Rattle.search_queue.proofs.Orders.{rise_step, rise_end, sink_step, sink_end}

pub length-keys_in : (items : List Item) (places : List ℕ) → length (keys_in items places) ≡ length places
length-keys_in items places = length-map places (key_in items)

-- the key of a node, by its place
pub key-keys_in : (items : List Item) (places : List ℕ) (node : ℕ) → key_at (keys_in items places) node ≡ key_in items (place_of places node)
key-keys_in items places node = elim (cases_lt node (length places)) [
  | inl l ↦ get_or-map (key_in items) places node 0 None l
  | inr g ↦ get_or_past (keys_in items places) node None (omega (arith, length-keys_in items places)) ∙ sym (ap (key_in items) (get_or_past places node 0 g))
]

pub key_in_place : (items : List Item) (place at : ℕ) → place ≡ at + 1 → key_in items place ≡ Some (rank items at)
key_in_place items zero at e = absurd (omega arith)
key_in_place items (suc place) at e = ap (λ n. Some (rank items n)) (let same : place ≡ at = omega arith in same)

pub key_in_none : (items : List Item) (place : ℕ) → place ≡ 0 → key_in items place ≡ None
key_in_none items place e = ap (key_in items) e

-- a node with a key has a place
pub place_of_key : (items : List Item) (place key : ℕ) → key_in items place ≡ Some key → (at : ℕ) × (place ≡ at + 1) × (rank items at ≡ key)
place_of_key items zero key e = absurd (cc)
place_of_key items (suc place) key e = (place, omega arith, cc)

pub no_place : (items : List Item) (place : ℕ) → key_in items place ≡ None → place ≡ 0
no_place items zero e = refl
no_place items (suc place) e = absurd (cc)

-- lists that agree at each node
pub same_keys : (xs ys : List (Option ℕ)) → length xs ≡ length ys → ((node : ℕ) → key_at xs node ≡ key_at ys node) → xs ≡ ys
same_keys xs ys l h = ext_get_or None xs ys l (λ i _. h i)

module _ {items : List Item} {places : List ℕ} {hole node : ℕ} (h : IsHoled items places hole node) (x : Item) {items' : List Item} {places' : List ℕ} (ie : items' ≡ slice_set items hole x) (pe : places' ≡ slice_set places x.node (hole + 1)) where
  pub long_items : length items' ≡ length items
  long_items = ap length ie ∙ length-set items hole x

  pub long_places : length places' ≡ length places
  long_places = ap length pe ∙ length-set places x.node (hole + 1)

  pub item_here : item_at items' hole ≡ x
  item_here = ap (λ (xs : List Item). item_at xs hole) ie ∙ get_or-set_same items hole x _ h.inside

  pub item_there : (at : ℕ) → at ≢ hole → item_at items' at ≡ item_at items at
  item_there at ne = ap (λ (xs : List Item). item_at xs at) ie ∙ get_or-set_other items hole at x _ ne

  pub rank_there : (at : ℕ) → at ≢ hole → rank items' at ≡ rank items at
  rank_there at ne = ap (λ (y : Item). y.key) (item_there at ne)

  pub rank_here : rank items' hole ≡ x.key
  rank_here = ap (λ (y : Item). y.key) item_here

  node_there : (at : ℕ) → at ≢ hole → node_at items' at ≡ node_at items at
  node_there at ne = ap (λ (y : Item). y.node) (item_there at ne)

  node_here : node_at items' hole ≡ x.node
  node_here = ap (λ (y : Item). y.node) item_here

  place_here : x.node < length places → place_of places' x.node ≡ hole + 1
  place_here l = ap (λ (ys : List ℕ). place_of ys x.node) pe ∙ get_or-set_same places x.node (hole + 1) 0 l

  place_there : (other : ℕ) → other ≢ x.node → place_of places' other ≡ place_of places other
  place_there other ne = ap (λ (ys : List ℕ). place_of ys other) pe ∙ get_or-set_other places x.node other (hole + 1) 0 ne

  -- the key of a node that neither the old place nor the item is of
  key_there : (other : ℕ) → other ≢ node → other ≢ x.node → key_at (keys_in items' places') other ≡ key_at (keys_in items places) other
  key_there other nn nx =
      key-keys_in items' places' other ∙ (ap (key_in items') (place_there other nx) ∙ (same (place_of places other) refl ∙ sym (key-keys_in items places other)))
    where
      same : (place : ℕ) → place_of places other ≡ place → key_in items' place ≡ key_in items place
      same zero e = refl
      same (suc at) e = ap Some (rank_there at (h.backward other at nn (omega arith)).1)

  key_here : x.node < length places → key_at (keys_in items' places') x.node ≡ Some x.key
  key_here l = key-keys_in items' places' x.node ∙ (key_in_place items' (place_of places' x.node) hole (place_here l) ∙ ap Some rank_here)

  -- the item of another place moves to the free one
  pub step_holed : (from : ℕ) → from < length items → from ≢ hole → x ≡ item_at items from → IsHoled items' places' from node
  step_holed from l ne xe =
      let m : x.node ≡ node_at items from = ap (λ (y : Item). y.node) xe in
      let f = h.forward from l ne in
      let known : x.node < length places = omega (arith, f.0) in
      let mp : place_of places x.node ≡ from + 1 = ap (place_of places) m ∙ f.2 in
      record {
        few = omega (arith, h.few, long_places);
        inside = omega (arith, long_items);
        fits = omega (arith, h.fits, long_places, long_items);
        known = omega (arith, h.known, long_places);
        forward = λ at i d. elim (cases_eq at hole) [
          | inl e ↦
              let n : node_at items' at ≡ x.node = ap (node_at items') e ∙ node_here in
              (omega (arith, long_places), λ same. f.1 (sym m ∙ (sym n ∙ same)), ap (place_of places') n ∙ (place_here known ∙ ap (λ n. n + 1) (sym e)))
          | inr d2 ↦
              let g = h.forward at (omega (arith, long_items)) d2 in
              let n = node_there at d2 in
              let apart : node_at items at ≢ x.node = λ same. d (let p = ap (place_of places) same in omega (arith, g.2)) in
              (omega (arith, g.0, long_places), λ same. g.1 (sym n ∙ same), ap (place_of places') n ∙ (place_there (node_at items at) apart ∙ g.2))
        ];
        backward = λ other at no p. elim (cases_eq other x.node) [
          | inl e ↦
              let here = place_here known in
              let there = ap (place_of places') e in
              let at_is : at ≡ hole = omega arith in
              (omega (arith, long_items, h.inside), (λ same. ne (omega arith)), ap (node_at items') at_is ∙ (node_here ∙ sym e))
          | inr d ↦
              let b = h.backward other at no (sym (place_there other d) ∙ p) in
              (omega (arith, long_items, b.0), (λ same. d (sym b.2 ∙ (ap (node_at items) same ∙ sym m))), node_there at b.1 ∙ b.2)
        ];
      }

  pub step_keys : (from key : ℕ) → from < length items → from ≢ hole → x ≡ item_at items from → slice_set (keys_in items' places') node (Some key) ≡ slice_set (keys_in items places) node (Some key)
  step_keys from key l ne xe =
      let m : x.node ≡ node_at items from = ap (λ (y : Item). y.node) xe in
      let f = h.forward from l ne in
      let known : x.node < length places = omega (arith, f.0) in
      let inside' : node < length (keys_in items' places') = omega (arith, length-keys_in items' places', long_places, h.known) in
      let inside : node < length (keys_in items places) = omega (arith, length-keys_in items places, h.known) in
      same_keys (slice_set (keys_in items' places') node (Some key)) (slice_set (keys_in items places) node (Some key))
      (omega (arith, length-set (keys_in items' places') node (Some key), length-set (keys_in items places) node (Some key), length-keys_in items' places', length-keys_in items places, long_places))
      (λ v. elim (cases_eq v node) [
        | inl e ↦
            let a = get_or-set_same (keys_in items' places') node (Some key) None inside' in
            let b = get_or-set_same (keys_in items places) node (Some key) None inside in
            ap (key_at (slice_set (keys_in items' places') node (Some key))) e ∙ (a ∙ (sym b ∙ sym (ap (key_at (slice_set (keys_in items places) node (Some key))) e)))
        | inr nv ↦
            let a = get_or-set_other (keys_in items' places') node v (Some key) None nv in
            let b = get_or-set_other (keys_in items places) node v (Some key) None nv in
            a ∙ (elim (cases_eq v x.node) [
              | inl e ↦
                  let was : key_at (keys_in items places) x.node ≡ Some x.key = key-keys_in items places x.node ∙ (key_in_place items (place_of places x.node) from (ap (place_of places) m ∙ f.2) ∙ ap (λ (y : Item). Some y.key) (sym xe)) in
                  ap (key_at (keys_in items' places')) e ∙ (key_here known ∙ (sym was ∙ sym (ap (key_at (keys_in items places)) e)))
              | inr nx ↦ key_there v nv nx
            ] ∙ sym b)
      ])

  -- the item that was out is put in
  pub filled_pairs : x.node ≡ node → ArePaired items' places'
  filled_pairs own =
      let known : x.node < length places = omega (arith, h.known) in
      record {
        forward = λ at i. elim (cases_eq at hole) [
          | inl e ↦
              let n : node_at items' at ≡ x.node = ap (node_at items') e ∙ node_here in
              (omega (arith, long_places), ap (place_of places') n ∙ (place_here known ∙ ap (λ n. n + 1) (sym e)))
          | inr d ↦
              let g = h.forward at (omega (arith, long_items)) d in
              let n = node_there at d in
              (omega (arith, g.0, long_places), ap (place_of places') n ∙ (place_there (node_at items at) (λ same. g.1 (same ∙ own)) ∙ g.2))
        ];
        backward = λ other at p. elim (cases_eq other x.node) [
          | inl e ↦
              let here = place_here known in
              let there = ap (place_of places') e in
              let at_is : at ≡ hole = omega arith in
              (omega (arith, long_items, h.inside), ap (node_at items') at_is ∙ (node_here ∙ sym e))
          | inr d ↦
              let b = h.backward other at (λ same. d (same ∙ sym own)) (sym (place_there other d) ∙ p) in
              (omega (arith, long_items, b.0), node_there at b.1 ∙ b.2)
        ];
      }

  pub filled_keys : x.node ≡ node → keys_in items' places' ≡ slice_set (keys_in items places) x.node (Some x.key)
  filled_keys own =
      let known : x.node < length places = omega (arith, h.known) in
      let inside : x.node < length (keys_in items places) = omega (arith, length-keys_in items places) in
      same_keys (keys_in items' places') (slice_set (keys_in items places) x.node (Some x.key))
      (omega (arith, length-set (keys_in items places) x.node (Some x.key), length-keys_in items' places', length-keys_in items places, long_places))
      (λ v. elim (cases_eq v x.node) [
        | inl e ↦
            let b = get_or-set_same (keys_in items places) x.node (Some x.key) None inside in
            ap (key_at (keys_in items' places')) e ∙ (key_here known ∙ (sym b ∙ sym (ap (key_at (slice_set (keys_in items places) x.node (Some x.key))) e)))
        | inr nv ↦ key_there v (λ same. nv (same ∙ sym own)) nv ∙ sym (get_or-set_other (keys_in items places) x.node v (Some x.key) None nv)
      ])

  -- the order, where the free place moves or is filled
  pub rise_ends : MayRise (length items) (rank items) hole x.key → ((parent : ℕ) → IsBelow parent hole → rank items parent ≤ x.key) → AreOrdered (length items') (rank items')
  rise_ends m stop = subst (λ (n : ℕ). AreOrdered n (rank items')) (sym long_items) (rise_end rank_there m rank_here stop)

  pub rise_steps : (parent key : ℕ) → MayRise (length items) (rank items) hole key → IsBelow parent hole → x ≡ item_at items parent → key < x.key → MayRise (length items') (rank items') parent key
  rise_steps parent key m above xe less =
      let here : rank items' hole ≡ rank items parent = rank_here ∙ ap (λ (y : Item). y.key) xe in
      subst (λ (n : ℕ). MayRise n (rank items') parent key) (sym long_items) (rise_step rank_there parent m above h.inside here (omega (arith, here, rank_here)))

  pub sink_ends : MaySink (length items) (rank items) hole x.key → ((child : ℕ) → IsBelow hole child → child < length items → x.key ≤ rank items child) → AreOrdered (length items') (rank items')
  sink_ends m stop = subst (λ (n : ℕ). AreOrdered n (rank items')) (sym long_items) (sink_end rank_there m rank_here stop)

  pub sink_steps : (below key : ℕ) → MaySink (length items) (rank items) hole key → IsBelow hole below → below < length items → ((other : ℕ) → IsBelow hole other → other < length items → rank items below ≤ rank items other) → x ≡ item_at items below → x.key < key → MaySink (length items') (rank items') below key
  sink_steps below key m under inside least xe less =
      let here : rank items' hole ≡ rank items below = rank_here ∙ ap (λ (y : Item). y.key) xe in
      subst (λ (n : ℕ). MaySink n (rank items') below key) (sym long_items) (sink_step rank_there below m under inside least here (omega (arith, here, rank_here)))
