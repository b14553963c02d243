-- What is known of each node, where something is kept of one.
use Rattle.std.proofs.Common.{◌≡◌, ◌≢◌, ℕ, ◌+◌, ◌<◌, ◌≤◌, Option, Some, None, List, [], ◌∷◌, ◌++◌, length, length-set, length-append, replicate, zero, suc, sym, ap, ◌∙◌, refl, inl, inr, arith}
use Rattle.std.specs.Prelude.{slice_index, slice_set}
use Rattle.std.proofs.lemmas.Bool.{cases_eq, cases_lt}
use Rattle.std.proofs.lemmas.List.{get_or-set_same, get_or-set_other, get_or-map, get_or_past, get_or_append_left, get_or_push, get_or-replicate, length-map, length-replicate, ext_get_or}
use Rattle.search_queue.proofs.Pigeons.{fewer}
use Rattle.alt_search.specs.declared.reach.Reach.{Reach}
use Rattle.alt_search.specs.declared.reached.Kept.{Kept}
use Rattle.alt_search.specs.Progress.{reach_at}
use Rattle.alt_search.specs.Kept.{reach_of, kept_at, reach_in, reaches_in, ArePaired}

pub length-reaches_in : (kept : List Kept) (slots : List ℕ) → length (reaches_in kept slots) ≡ length slots
length-reaches_in kept slots = length-map slots (reach_in kept)

-- what is known of a node, by its slot
reach-reaches_in : (kept : List Kept) (slots : List ℕ) (node : ℕ) → reach_at (reaches_in kept slots) node ≡ reach_in kept (slice_index slots node)
reach-reaches_in kept slots node = elim (cases_lt node (length slots)) [
  | inl l ↦ get_or-map (reach_in kept) slots node 0 None l
  | inr g ↦ get_or_past (reaches_in kept slots) node None (omega (arith, length-reaches_in kept slots)) ∙ sym (ap (reach_in kept) (get_or_past slots node 0 g))
]

reach_in_slot : (kept : List Kept) (slot at : ℕ) → slot ≡ at + 1 → reach_in kept slot ≡ Some (reach_of (kept_at kept at))
reach_in_slot kept zero at e = absurd (omega arith)
reach_in_slot kept (suc slot) at e = ap (λ n. Some (reach_of (kept_at kept n))) (let same : slot ≡ at = omega arith in same)

pub unknown : (kept : List Kept) (slots : List ℕ) (node : ℕ) → slice_index slots node ≡ 0 → reach_at (reaches_in kept slots) node ≡ None
unknown kept slots node e = reach-reaches_in kept slots node ∙ ap (reach_in kept) e

pub known : (kept : List Kept) (slots : List ℕ) (node at : ℕ) → slice_index slots node ≡ at + 1 → reach_at (reaches_in kept slots) node ≡ Some (reach_of (kept_at kept at))
known kept slots node at e = reach-reaches_in kept slots node ∙ reach_in_slot kept (slice_index slots node) at e

same_reaches : (xs ys : List (Option Reach)) → length xs ≡ length ys → ((node : ℕ) → reach_at xs node ≡ reach_at ys node) → xs ≡ ys
same_reaches xs ys l h = ext_get_or None xs ys l (λ i _. h i)

-- where no node has a slot nothing is known
pub none_known : (kept : List Kept) (nodes : ℕ) → reaches_in kept (replicate nodes 0) ≡ replicate nodes None
none_known kept nodes =
    same_reaches (reaches_in kept (replicate nodes 0)) (replicate nodes None) (omega (arith, length-reaches_in kept (replicate nodes 0), length-replicate {A = ℕ} nodes 0, length-replicate {A = Option Reach} nodes None))
    (λ v. unknown kept (replicate nodes 0) v (elim (cases_lt v nodes) [
      | inl l ↦ get_or-replicate nodes v 0 0 l
      | inr g ↦ get_or_past (replicate nodes 0) v 0 (omega (arith, length-replicate {A = ℕ} nodes 0))
    ]) ∙ sym (elim (cases_lt v nodes) [
      | inl l ↦ get_or-replicate nodes v None None l
      | inr g ↦ get_or_past (replicate nodes None) v None (omega (arith, length-replicate {A = Option Reach} nodes None))
    ]))

-- there is room for a node of which nothing is known
pub room_for : {kept : List Kept} {slots : List ℕ} → ArePaired kept slots → (node : ℕ) → node < length slots → slice_index slots node ≡ 0 → length kept < length slots
room_for {kept} {slots} p node l none =
    fewer (length slots) (length kept) (slice_index slots) (λ i b. let f = p.forward i b in ((kept_at kept i).node, f.0, f.1)) node l none

-- what is kept at a slot, new or not, becomes what is known of its node
record IsWritten (kept : List Kept) (slots : List ℕ) (kept' : List Kept) (slots' : List ℕ) (item : Kept) (slot : ℕ) : Type 0 where
  pub long : length slots' ≡ length slots
  pub inside : slot < length kept'
  pub grows : length kept ≤ length kept'
  pub only : (at : ℕ) → at < length kept' → at ≢ slot → at < length kept
  pub here : kept_at kept' slot ≡ item
  pub there : (at : ℕ) → at < length kept → at ≢ slot → kept_at kept' at ≡ kept_at kept at
  pub slot_here : slice_index slots' item.node ≡ slot + 1
  pub slot_there : (node : ℕ) → node ≢ item.node → slice_index slots' node ≡ slice_index slots node
  pub owner : (node : ℕ) → slice_index slots node ≡ slot + 1 → node ≡ item.node
  pub was : (at : ℕ) → slice_index slots item.node ≡ at + 1 → at ≡ slot

module _ {kept : List Kept} {slots : List ℕ} {kept' : List Kept} {slots' : List ℕ} {item : Kept} {slot : ℕ} (p : ArePaired kept slots) (l : item.node < length slots) (w : IsWritten kept slots kept' slots' item slot) where
  written_pairs : ArePaired kept' slots'
  written_pairs = record {
    forward = λ at i. elim (cases_eq at slot) [
      | inl e ↦
          let n : (kept_at kept' at).node ≡ item.node = ap (λ s. (kept_at kept' s).node) e ∙ ap (λ (k : Kept). k.node) w.here in
          (omega (arith, w.long), ap (slice_index slots') n ∙ (w.slot_here ∙ ap (λ n. n + 1) (sym e)))
      | inr ne ↦
          let inside = w.only at i ne in
          let f = p.forward at inside in
          let n : (kept_at kept' at).node ≡ (kept_at kept at).node = ap (λ (k : Kept). k.node) (w.there at inside ne) in
          let apart : (kept_at kept at).node ≢ item.node = λ same. ne (w.was at (sym (ap (slice_index slots) same) ∙ f.1)) in
          (omega (arith, f.0, w.long), ap (slice_index slots') n ∙ (w.slot_there (kept_at kept at).node apart ∙ f.1))
    ];
    backward = λ node at s. elim (cases_eq node item.node) [
      | inl e ↦
          let here = w.slot_here in
          let there = ap (slice_index slots') e in
          let same : at ≡ slot = omega arith in
          (omega (arith, w.inside), ap (λ s. (kept_at kept' s).node) same ∙ (ap (λ (k : Kept). k.node) w.here ∙ sym e))
      | inr ne ↦
          let b = p.backward node at (sym (w.slot_there node ne) ∙ s) in
          let apart : at ≢ slot = λ same. ne (w.owner node (sym (w.slot_there node ne) ∙ (s ∙ ap (λ n. n + 1) same))) in
          (omega (arith, b.0, w.grows), ap (λ (k : Kept). k.node) (w.there at b.0 apart) ∙ b.1)
    ];
  }

  written_reaches : reaches_in kept' slots' ≡ slice_set (reaches_in kept slots) item.node (Some (reach_of item))
  written_reaches =
      let old = reaches_in kept slots in
      same_reaches (reaches_in kept' slots') (slice_set old item.node (Some (reach_of item)))
      (omega (arith, length-set old item.node (Some (reach_of item)), length-reaches_in kept' slots', length-reaches_in kept slots, w.long))
      (λ v. elim (cases_eq v item.node) [
        | inl e ↦
            let now = known kept' slots' item.node slot w.slot_here ∙ ap (λ (k : Kept). Some (reach_of k)) w.here in
            let set = get_or-set_same old item.node (Some (reach_of item)) None (omega (arith, length-reaches_in kept slots)) in
            ap (reach_at (reaches_in kept' slots')) e ∙ (now ∙ (sym set ∙ sym (ap (reach_at (slice_set old item.node (Some (reach_of item)))) e)))
        | inr ne ↦
            reach-reaches_in kept' slots' v ∙ (ap (reach_in kept') (w.slot_there v ne) ∙ (same v ne (slice_index slots v) refl ∙ (sym (reach-reaches_in kept slots v) ∙ sym (get_or-set_other old item.node v (Some (reach_of item)) None ne))))
      ])
    where
      same : (v : ℕ) → v ≢ item.node → (s : ℕ) → slice_index slots v ≡ s → reach_in kept' s ≡ reach_in kept s
      same v ne zero e = refl
      same v ne (suc at) e =
          let b = p.backward v at (omega arith) in
          let apart : at ≢ slot = λ d. ne (w.owner v (omega arith)) in
          ap (λ (k : Kept). Some (reach_of k)) (w.there at b.0 apart)

-- a node that was reached before
pub kept_over : {kept : List Kept} {slots : List ℕ} {kept' : List Kept} (item : Kept) (slot : ℕ) → ArePaired kept slots → item.node < length slots → slice_index slots item.node ≡ slot + 1 → kept' ≡ slice_set kept slot item → ArePaired kept' slots × (reaches_in kept' slots ≡ slice_set (reaches_in kept slots) item.node (Some (reach_of item)))
kept_over {kept} {slots} {kept'} item slot p l s e =
    let b = p.backward item.node slot s in
    let many : length kept' ≡ length kept = ap length e ∙ length-set kept slot item in
    let w : IsWritten kept slots kept' slots item slot = record {
      long = refl;
      inside = omega (arith, b.0);
      grows = omega arith;
      only = λ at i ne. omega arith;
      here = ap (λ xs. kept_at xs slot) e ∙ get_or-set_same kept slot item _ b.0;
      there = λ at i ne. ap (λ xs. kept_at xs at) e ∙ get_or-set_other kept slot at item _ ne;
      slot_here = s;
      slot_there = λ node ne. refl;
      owner = λ node t. sym (p.backward node slot t).1 ∙ b.1;
      was = λ at t. omega arith;
    } in
    (written_pairs p l w, written_reaches p l w)

-- a node that is reached for the first time
pub kept_anew : {kept : List Kept} {slots : List ℕ} {kept' : List Kept} {slots' : List ℕ} (item : Kept) → ArePaired kept slots → item.node < length slots → slice_index slots item.node ≡ 0 → kept' ≡ kept ++ item ∷ [] → slots' ≡ slice_set slots item.node (length kept + 1) → ArePaired kept' slots' × (reaches_in kept' slots' ≡ slice_set (reaches_in kept slots) item.node (Some (reach_of item)))
kept_anew {kept} {slots} {kept'} {slots'} item p l none e s =
    let many : length kept' ≡ length kept + 1 = omega (arith, ap length e, length-append kept (item ∷ [])) in
    let w : IsWritten kept slots kept' slots' item (length kept) = record {
      long = ap length s ∙ length-set slots item.node (length kept + 1);
      inside = omega arith;
      grows = omega arith;
      only = λ at i ne. omega arith;
      here = ap (λ xs. kept_at xs (length kept)) e ∙ get_or_push kept item _ (length kept) refl;
      there = λ at i ne. ap (λ xs. kept_at xs at) e ∙ get_or_append_left kept (item ∷ []) _ at i;
      slot_here = ap (λ (xs : List ℕ). slice_index xs item.node) s ∙ get_or-set_same slots item.node (length kept + 1) 0 l;
      slot_there = λ node ne. ap (λ (xs : List ℕ). slice_index xs node) s ∙ get_or-set_other slots item.node node (length kept + 1) 0 ne;
      owner = λ node t. absurd (let b = p.backward node (length kept) t in omega (arith, b.0));
      was = λ at t. absurd (omega arith);
    } in
    (written_pairs p l w, written_reaches p l w)
