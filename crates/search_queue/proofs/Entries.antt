-- Items that come into a heap, get a lesser key and leave it.
use Rattle.std.proofs.Common.{◌≡◌, ◌≢◌, ℕ, ◌+◌, ◌^◌, ◌<◌, ◌≤◌, Option, Some, None, IsSomeAnd, List, [], ◌∷◌, ◌++◌, length, take, replicate, length-set, length-append, zero, suc, sym, ap, ◌∙◌, refl, inl, inr, arith}
use Rattle.std.specs.Prelude.{slice_set}
use Rattle.std.proofs.lemmas.Bool.{cases_eq, cases_lt}
use Rattle.std.proofs.lemmas.List.{get_or-set_same, get_or-set_other, get_or_append_left, get_or-take, length-take-le, get_or_past, get_or_push, get_or-replicate, length-replicate, take_at}
use Rattle.search_queue.specs.declared.heap.Item.{Item}
use Rattle.search_queue.specs.Keys.{key_at}
use Rattle.search_queue.specs.Heaps.{item_at, rank, node_at, place_of, key_in, keys_in, ArePaired, IsHoled, AreOrdered, MayRise}
use Rattle.search_queue.proofs.Pigeons.{pigeons, fewer}
use Rattle.search_queue.proofs.Holes.{length-keys_in, key-keys_in, key_in_place, key_in_none, place_of_key, no_place, same_keys}
use Rattle.search_queue.proofs.Orders.{least_first}

-- with no items there are no keys
pub empty_keys : (items : List Item) (nodes : ℕ) → keys_in items (replicate nodes 0) ≡ replicate nodes None
empty_keys items nodes =
    same_keys (keys_in items (replicate nodes 0)) (replicate nodes None) (omega (arith, length-keys_in items (replicate nodes 0), length-replicate {A = ℕ} nodes 0, length-replicate {A = Option ℕ} nodes None))
    (λ v. key-keys_in items (replicate nodes 0) v ∙ (key_in_none items (place_of (replicate nodes 0) v) (elim (cases_lt v nodes) [
      | inl l ↦ get_or-replicate nodes v 0 0 l
      | inr g ↦ get_or_past (replicate nodes 0) v 0 (omega (arith, length-replicate {A = ℕ} nodes 0))
    ]) ∙ sym (elim (cases_lt v nodes) [
      | inl l ↦ get_or-replicate nodes v None None l
      | inr g ↦ get_or_past (replicate nodes None) v None (omega (arith, length-replicate {A = Option ℕ} nodes None))
    ])))

module _ {items : List Item} {places : List ℕ} (paired : ArePaired items places) where
  -- there are no more items than nodes
  pub fits_in : length items ≤ length places
  fits_in = pigeons (length places) (length items) (node_at items) (λ i l. (paired.forward i l).0) (λ i j a b same. let p = ap (place_of places) same in omega (arith, (paired.forward i a).1, (paired.forward j b).1))

  -- and fewer where a node has none
  pub room_for : (node : ℕ) → node < length places → key_at (keys_in items places) node ≡ None → length items < length places
  room_for node l none =
      fewer (length places) (length items) (place_of places) (λ i b. let f = paired.forward i b in (node_at items i, f.0, f.1)) node l (no_place items (place_of places node) (sym (key-keys_in items places node) ∙ none))

  -- the item that comes in stands last, where it may be too small
  pub entered_holed : (item : Item) → length places < 2 ^ 32 → item.node < length places → key_at (keys_in items places) item.node ≡ None → IsHoled (items ++ item ∷ []) places (length items) item.node
  entered_holed item few l none =
      let long = length-append items (item ∷ []) in
      let out : place_of places item.node ≡ 0 = no_place items (place_of places item.node) (sym (key-keys_in items places item.node) ∙ none) in
      record {
        few = few;
        inside = omega arith;
        fits = omega (arith, room_for item.node l none);
        known = l;
        forward = λ at i ne.
            let inside : at < length items = omega arith in
            let f = paired.forward at inside in
            let same : node_at (items ++ item ∷ []) at ≡ node_at items at = ap (λ (y : Item). y.node) (get_or_append_left items (item ∷ []) _ at inside) in
            (omega (arith, f.0), (λ e. let p = ap (place_of places) (sym same ∙ e) in omega (arith, f.1)), ap (place_of places) same ∙ f.1);
        backward = λ other at ne p.
            let b = paired.backward other at p in
            (omega (arith, b.0), omega (arith, b.0), ap (λ (y : Item). y.node) (get_or_append_left items (item ∷ []) _ at b.0) ∙ b.1);
      }

  -- the keys of those in the heap stay
  pub entered_keys : (item : Item) → keys_in (items ++ item ∷ []) places ≡ keys_in items places
  entered_keys item =
      same_keys (keys_in (items ++ item ∷ []) places) (keys_in items places) (omega (arith, length-keys_in (items ++ item ∷ []) places, length-keys_in items places))
      (λ v. key-keys_in (items ++ item ∷ []) places v ∙ (same v (place_of places v) refl ∙ sym (key-keys_in items places v)))
    where
      same : (v place : ℕ) → place_of places v ≡ place → key_in (items ++ item ∷ []) place ≡ key_in items place
      same v zero e = refl
      same v (suc at) e = ap (λ (y : Item). Some y.key) (get_or_append_left items (item ∷ []) _ at (paired.backward v at (omega arith)).0)

  -- a node's own place is free for a lesser key
  pub lowered_holed : (node hole : ℕ) → length places < 2 ^ 32 → node < length places → place_of places node ≡ hole + 1 → IsHoled items places hole node
  lowered_holed node hole few l p =
      let b = paired.backward node hole p in
      record {
        few = few;
        inside = b.0;
        fits = fits_in;
        known = l;
        forward = λ at i ne. let f = paired.forward at i in (f.0, (λ e. ne (let q = ap (place_of places) e in omega (arith, f.1))), f.1);
        backward = λ other at ne q. let d = paired.backward other at q in (d.0, (λ e. ne (sym d.1 ∙ (ap (node_at items) e ∙ b.1))), d.1);
      }

  pub lowered_order : (hole key : ℕ) → AreOrdered (length items) (rank items) → hole < length items → key ≤ rank items hole → MayRise (length items) (rank items) hole key
  lowered_order hole key o l less = record {
    others = λ p child b i np nc. o p child b i;
    across = λ p child b d i. omega (arith, o p hole b l, o hole child d i);
    below = λ child d i. omega (arith, o hole child d i);
  }

  -- the first item is that of its node, and no key is less
  pub first_found : 0 < length items → key_at (keys_in items places) (node_at items 0) ≡ Some (rank items 0)
  first_found l = key-keys_in items places (node_at items 0) ∙ key_in_place items (place_of places (node_at items 0)) 0 (paired.forward 0 l).1

  pub first_least : AreOrdered (length items) (rank items) → (node key : ℕ) → key_at (keys_in items places) node ≡ Some key → rank items 0 ≤ key
  first_least o node key e =
      let p = place_of_key items (place_of places node) key (sym (key-keys_in items places node) ∙ e) in
      let b = paired.backward node p.0 p.1 in
      omega (arith, p.2, least_first (length items) (rank items) o p.0 b.0)

  pub none_inside : length items ≡ 0 → (node : ℕ) → key_at (keys_in items places) node ≡ None
  none_inside none node = key-keys_in items places node ∙ out (place_of places node) refl
    where
      out : (place : ℕ) → place_of places node ≡ place → key_in items place ≡ None
      out zero e = refl
      out (suc at) e = absurd (omega (arith, (paired.backward node at (omega arith)).0))

  -- the first item leaves, and the last is to be put in again
  module _ (rest : ℕ) (items' : List Item) (places' : List ℕ) (few : length places < 2 ^ 32) (long : length items ≡ rest + 1) (ie : items' ≡ take rest items) (pe : places' ≡ slice_set places (node_at items 0) 0) where
    long' : length items' ≡ rest
    long' = ap length ie ∙ length-take-le rest items (omega arith)

    long_places' : length places' ≡ length places
    long_places' = ap length pe ∙ length-set places (node_at items 0) 0

    item_kept : (at : ℕ) → at < rest → item_at items' at ≡ item_at items at
    item_kept at l = ap (λ (xs : List Item). item_at xs at) ie ∙ get_or-take rest items at _ l

    pub rank_kept : (at : ℕ) → at < rest → rank items' at ≡ rank items at
    rank_kept at l = ap (λ (y : Item). y.key) (item_kept at l)

    gone : place_of places' (node_at items 0) ≡ 0
    gone = ap (λ (ys : List ℕ). place_of ys (node_at items 0)) pe ∙ get_or-set_same places (node_at items 0) 0 0 (paired.forward 0 (omega arith)).0

    place_kept : (other : ℕ) → other ≢ node_at items 0 → place_of places' other ≡ place_of places other
    place_kept other ne = ap (λ (ys : List ℕ). place_of ys other) pe ∙ get_or-set_other places (node_at items 0) other 0 0 ne

    -- a node that has a place yet
    still : (other at : ℕ) → place_of places' other ≡ at + 1 → (other ≢ node_at items 0) × (place_of places other ≡ at + 1)
    still other at p =
        let ne : other ≢ node_at items 0 = λ e. let q = ap (place_of places') e in omega (arith, gone) in
        (ne, sym (place_kept other ne) ∙ p)

    pub left_holed : rest ≢ 0 → IsHoled items' places' 0 (node_at items rest)
    left_holed more =
        let last = paired.forward rest (omega arith) in
        let first = paired.forward 0 (omega arith) in
        record {
          few = omega (arith, long_places');
          inside = omega (arith, long');
          fits = omega (arith, fits_in, long', long_places');
          known = omega (arith, last.0, long_places');
          forward = λ at i ne.
              let inside : at < rest = omega (arith, long') in
              let f = paired.forward at (omega arith) in
              let same : node_at items' at ≡ node_at items at = ap (λ (y : Item). y.node) (item_kept at inside) in
              let apart : node_at items at ≢ node_at items 0 = λ e. ne (let q = ap (place_of places) e in omega (arith, f.1, first.1)) in
              (omega (arith, f.0, long_places'), (λ e. let q = ap (place_of places) (sym same ∙ e) in omega (arith, f.1, last.1)), ap (place_of places') same ∙ (place_kept (node_at items at) apart ∙ f.1));
          backward = λ other at ne p.
              let s = still other at p in
              let b = paired.backward other at s.1 in
              let not_last : at ≢ rest = λ e. ne (sym b.1 ∙ ap (node_at items) e) in
              let inside : at < rest = omega (arith, b.0) in
              (omega (arith, long'), (λ e. s.0 (sym b.1 ∙ ap (node_at items) e)), ap (λ (y : Item). y.node) (item_kept at inside) ∙ b.1);
        }

    -- all keys but those of the first and the last stay
    key_kept : (other : ℕ) → other ≢ node_at items 0 → other ≢ node_at items rest → key_at (keys_in items' places') other ≡ key_at (keys_in items places) other
    key_kept other nf nl =
        key-keys_in items' places' other ∙ (ap (key_in items') (place_kept other nf) ∙ (same (place_of places other) refl ∙ sym (key-keys_in items places other)))
      where
        same : (place : ℕ) → place_of places other ≡ place → key_in items' place ≡ key_in items place
        same zero e = refl
        same (suc at) e =
            let b = paired.backward other at (omega arith) in
            let not_last : at ≢ rest = λ d. nl (sym b.1 ∙ ap (node_at items) d) in
            ap Some (rank_kept at (omega (arith, b.0)))

    key_gone : key_at (keys_in items' places') (node_at items 0) ≡ None
    key_gone = key-keys_in items' places' (node_at items 0) ∙ key_in_none items' (place_of places' (node_at items 0)) gone

    pub left_keys : rest ≢ 0 → slice_set (keys_in items' places') (node_at items rest) (Some (rank items rest)) ≡ slice_set (keys_in items places) (node_at items 0) None
    left_keys more =
        let last = paired.forward rest (omega arith) in
        let first = paired.forward 0 (omega arith) in
        let apart : node_at items 0 ≢ node_at items rest = λ e. let q = ap (place_of places) e in omega (arith, first.1, last.1) in
        let new = keys_in items' places' in
        let old = keys_in items places in
        same_keys (slice_set new (node_at items rest) (Some (rank items rest))) (slice_set old (node_at items 0) None)
        (omega (arith, length-set new (node_at items rest) (Some (rank items rest)), length-set old (node_at items 0) None, length-keys_in items' places', length-keys_in items places, long_places'))
        (λ v. elim (cases_eq v (node_at items rest)) [
          | inl e ↦
              let here = get_or-set_same new (node_at items rest) (Some (rank items rest)) None (omega (arith, length-keys_in items' places', long_places', last.0)) in
              let there = get_or-set_other old (node_at items 0) (node_at items rest) None None (λ d. apart (sym d)) in
              let was : key_at old (node_at items rest) ≡ Some (rank items rest) = key-keys_in items places (node_at items rest) ∙ key_in_place items (place_of places (node_at items rest)) rest last.1 in
              ap (key_at (slice_set new (node_at items rest) (Some (rank items rest)))) e ∙ (here ∙ (sym was ∙ (sym there ∙ sym (ap (key_at (slice_set old (node_at items 0) None)) e))))
          | inr nl ↦ get_or-set_other new (node_at items rest) v (Some (rank items rest)) None nl ∙ (elim (cases_eq v (node_at items 0)) [
            | inl e ↦
                let there = get_or-set_same old (node_at items 0) None None (omega (arith, length-keys_in items places, first.0)) in
                ap (key_at new) e ∙ (key_gone ∙ (sym there ∙ sym (ap (key_at (slice_set old (node_at items 0) None)) e)))
            | inr nf ↦ key_kept v nf nl ∙ sym (get_or-set_other old (node_at items 0) v None None nf)
          ])
        ])

    pub emptied_pairs : rest ≡ 0 → ArePaired items' places'
    emptied_pairs none = record {
      forward = λ at i. absurd (omega (arith, long'));
      backward = λ other at p.
          let s = still other at p in
          let b = paired.backward other at s.1 in
          absurd (s.0 (sym b.1 ∙ ap (node_at items) (let z : at ≡ 0 = omega (arith, b.0) in z)));
    }

    pub emptied_keys : rest ≡ 0 → keys_in items' places' ≡ slice_set (keys_in items places) (node_at items 0) None
    emptied_keys none =
        let first = paired.forward 0 (omega arith) in
        let new = keys_in items' places' in
        let old = keys_in items places in
        same_keys new (slice_set old (node_at items 0) None)
        (omega (arith, length-set old (node_at items 0) None, length-keys_in items' places', length-keys_in items places, long_places'))
        (λ v. elim (cases_eq v (node_at items 0)) [
          | inl e ↦
              let there = get_or-set_same old (node_at items 0) None None (omega (arith, length-keys_in items places, first.0)) in
              ap (key_at new) e ∙ (key_gone ∙ (sym there ∙ sym (ap (key_at (slice_set old (node_at items 0) None)) e)))
          | inr nf ↦ key_kept v nf (λ e. nf (e ∙ ap (node_at items) none)) ∙ sym (get_or-set_other old (node_at items 0) v None None nf)
        ])

-- what a list was before its last item left
pub popped : (items items' : List Item) (last : Item) → items ≡ items' ++ last ∷ [] → (length items ≡ length items' + 1) × (items' ≡ take (length items') items) × (last ≡ item_at items (length items'))
popped items items' last e = (
  omega (arith, ap length e, length-append items' (last ∷ [])),
  sym (ap (take (length items')) e ∙ take_at items' (last ∷ []) (length items') refl),
  sym (ap (λ (xs : List Item). item_at xs (length items')) e ∙ get_or_push items' last _ (length items') refl),
)

pub popped_first : (items items' : List Item) (last : Item) → items ≡ items' ++ last ∷ [] → length items' ≢ 0 → item_at items' 0 ≡ item_at items 0
popped_first items items' last e more =
    sym (ap (λ (xs : List Item). item_at xs 0) e ∙ get_or_append_left items' (last ∷ []) _ 0 (omega arith))

some_and : (key : ℕ) (o : Option ℕ) → IsSomeAnd o (λ k. key ≤ k) → (k : ℕ) × (o ≡ Some k) × (key ≤ k)
some_and key (Some k) h = (k, refl, h)
some_and key None h = absurd h

-- where the item of a node with a key stands
pub present_place : {items : List Item} {places : List ℕ} → ArePaired items places → (node key : ℕ) → IsSomeAnd (key_at (keys_in items places) node) (λ k. key ≤ k) → (hole : ℕ) × (place_of places node ≡ hole + 1) × (hole < length items) × (key ≤ rank items hole)
present_place {items} {places} paired node key h =
    let s = some_and key (key_at (keys_in items places) node) h in
    let p = place_of_key items (place_of places node) s.0 (sym (key-keys_in items places node) ∙ s.1) in
    let b = paired.backward node p.0 p.1 in
    (p.0, p.1, b.0, omega (arith, p.2, s.2))
