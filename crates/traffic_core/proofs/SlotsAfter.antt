-- Slots after a history with an entry behind it.
use Rattle.std.proofs.Common.{◌≡◌, ℕ, ◌+◌, ◌-◌, ◌<◌, ◌≤◌, ◌↔◌, List, [], ◌∷◌, ◌++◌, length, take, Some, None, refl, ap, ◌∙◌, sym, subst, arith, inl, inr, zero, suc}
use Rattle.std.specs.Prelude.{slice_get}
use Rattle.std.proofs.lemmas.List.{take-append-le, take_all, length_push}
use Rattle.std.proofs.Math.Path.{fun_ext}
use Rattle.std.proofs.lemmas.Bool.{cases_lt}
use Rattle.std.proofs.lemmas.Option.{slice_get_within, same_Some}
use Rattle.gh_base.specs.declared.edges.DirEdge.{DirEdge}
use Rattle.traffic_core.specs.declared.entry.Entry.{Entry}
use Rattle.traffic_core.specs.declared.entry.What.TheVariants.{Publish}
use Rattle.base_graph.specs.Graphs.{Graph}
use Rattle.weighting.specs.SlowRoads.{AreNowhereAbove}
use Rattle.landmark_prep.specs.Preparations.{Preparation}
use Rattle.traffic_core.specs.History.{limit_in, limit_after, Covers, Publishes, TakesEffect, IsInSlot, IsSlot, LeavesSlot}
use Rattle.traffic_core.proofs.LimitsAfter.{limit_after-push}

pub slice_get_append_left : {A : Type 0} (xs ys : List A) (i : ℕ) → i < length xs → slice_get (xs ++ ys) i ≡ slice_get xs i
slice_get_append_left [] ys i h = absurd (omega arith)
slice_get_append_left (x ∷ xs) ys zero h = refl
slice_get_append_left (x ∷ xs) ys (suc i) h = slice_get_append_left xs ys i (omega arith)

pub slice_get_pushed : {A : Type 0} (xs : List A) (y : A) (i : ℕ) → i ≡ length xs → slice_get (xs ++ y ∷ []) i ≡ Some y
slice_get_pushed [] y i e = rw e refl
slice_get_pushed (x ∷ xs) y i e = rw e (slice_get_pushed xs y (length xs) refl)

-- the history with an entry behind it
abbrev pushed : List Entry → Entry → List Entry
pushed h entry = h ++ entry ∷ []

-- a place where something takes effect lies within the history
pub effect_within : (graph : Graph) (h : List Entry) (profile place : ℕ) (prep : Preparation) → TakesEffect graph h profile place prep → place ≤ length h
effect_within graph h profile place prep t = let w = slice_get_within h (place - 1) t.entry t.entry_is in let one = t.from_one in omega arith

-- what took effect still does
pub effect_keeps : (graph : Graph) (h : List Entry) (entry : Entry) (profile place : ℕ) (prep : Preparation) →
    TakesEffect graph h profile place prep → TakesEffect graph (h ++ entry ∷ []) profile place prep
effect_keeps graph h entry profile place prep t =
    let w : place - 1 < length h = slice_get_within h (place - 1) t.entry t.entry_is in
    let le : place - 1 ≤ length h = omega arith in
    record {
      from_one = t.from_one;
      entry = t.entry;
      entry_is = slice_get_append_left h (entry ∷ []) (place - 1) w ∙ t.entry_is;
      publishes = rw (take-append-le (place - 1) h (entry ∷ []) le) t.publishes;
    }

-- what takes effect before the last entry did so without it
pub effect_was : (graph : Graph) (h : List Entry) (entry : Entry) (profile place : ℕ) (prep : Preparation) → place ≤ length h →
    TakesEffect graph (h ++ entry ∷ []) profile place prep → TakesEffect graph h profile place prep
effect_was graph h entry profile place prep within t =
    let one = t.from_one in
    let w : place - 1 < length h = omega arith in
    let le : place - 1 ≤ length h = omega arith in
    record {
      from_one = t.from_one;
      entry = t.entry;
      entry_is = sym (slice_get_append_left h (entry ∷ []) (place - 1) w) ∙ t.entry_is;
      publishes = rw (take-append-le (place - 1) h (entry ∷ []) le) at t.publishes;
    }

-- what takes effect behind the history is the entry itself
pub effect_last : (graph : Graph) (h : List Entry) (entry : Entry) (profile place : ℕ) (prep : Preparation) → length h < place →
    TakesEffect graph (h ++ entry ∷ []) profile place prep → Publishes graph h entry profile prep
effect_last graph h entry profile place prep behind t =
    let within : place ≤ length (h ++ entry ∷ []) = effect_within graph (h ++ entry ∷ []) profile place prep t in
    let grown : length (h ++ entry ∷ []) ≡ length h + 1 = length_push h entry in
    let at : place - 1 ≡ length h = omega arith in
    let is : t.entry ≡ entry = same_Some _ _ (sym t.entry_is ∙ slice_get_pushed h entry (place - 1) at) in
    let front : take (place - 1) (h ++ entry ∷ []) ≡ h = rw at (take-append-le (length h) h (entry ∷ []) (omega arith) ∙ take_all (length h) h (omega arith)) in
    let p : Publishes graph h t.entry profile prep = (rw front at t.publishes) in
    rw is at p

-- an entry publishes one preparation
pub one_published : (place : ℕ) (graph : Graph) (h : List Entry) (profile : ℕ) (prep other : Preparation) →
    TakesEffect graph h profile place prep → TakesEffect graph h profile place other → prep ≡ other
one_published place graph h profile prep other t s =
    let is : t.entry ≡ s.entry = same_Some _ _ (sym t.entry_is ∙ s.entry_is) in
    let e : Publish prep ≡ Publish other = sym t.publishes.what ∙ (ap (λ (x : Entry). x.what) is ∙ s.publishes.what) in
    cc

pub slots_cover : (graph : Graph) (h : List Entry) (profile place : ℕ) (prep : Preparation) → IsInSlot graph h profile place prep → Covers graph h prep
slots_cover graph h profile place prep s =
    let whole : take (length h) h ≡ h = take_all (length h) h (omega arith) in
    let c : Covers graph (take (length h) h) prep = s.stays (length h) (effect_within graph h profile place prep s.effect) (omega arith) in
    subst (λ (g : List Entry). Covers graph g prep) whole c

pub one_in_slot : (graph : Graph) (h : List Entry) (profile first second : ℕ) (prep other : Preparation) →
    IsInSlot graph h profile first prep → IsInSlot graph h profile second other → (first ≡ second) × (prep ≡ other)
one_in_slot graph h profile first second prep other s t = grind (arith, one_published)

-- what is in a slot before the last entry was there without it
pub slot_was : (graph : Graph) (h : List Entry) (entry : Entry) (profile place : ℕ) (prep : Preparation) → place ≤ length h →
    IsInSlot graph (h ++ entry ∷ []) profile place prep → IsInSlot graph h profile place prep
slot_was graph h entry profile place prep within s = record {
  effect = effect_was graph h entry profile place prep within s.effect;
  last = λ later other behind t. s.last later other behind (effect_keeps graph h entry profile later other t);
  stays = λ count from to. let grown : length (h ++ entry ∷ []) ≡ length h + 1 = length_push h entry in
      let c : Covers graph (take count (h ++ entry ∷ [])) prep = s.stays count from (omega arith) in
      rw (take-append-le count h (entry ∷ []) to) at c;
}

-- where nothing is published over a slot, what is in it afterwards was there before
pub slot_was_left : (graph : Graph) (h : List Entry) (entry : Entry) (profile place : ℕ) (prep : Preparation) → LeavesSlot graph h entry profile →
    IsInSlot graph (h ++ entry ∷ []) profile place prep → IsInSlot graph h profile place prep
slot_was_left graph h entry profile place prep leaves s =
    elim (cases_lt (length h) place) [
      | inl behind ↦ absurd (leaves prep (effect_last graph h entry profile place prep behind s.effect))
      | inr within ↦ slot_was graph h entry profile place prep within s
    ]

-- covering after each count of entries, and after one more
pub covers_on : (graph : Graph) (h : List Entry) (entry : Entry) (place : ℕ) (prep : Preparation) →
    ((count : ℕ) → place ≤ count → count ≤ length h → Covers graph (take count h) prep) → Covers graph (h ++ entry ∷ []) prep →
    (count : ℕ) → place ≤ count → count ≤ length (h ++ entry ∷ []) → Covers graph (take count (h ++ entry ∷ [])) prep
covers_on graph h entry place prep before here count from to =
    let grown : length (h ++ entry ∷ []) ≡ length h + 1 = length_push h entry in
    elim (cases_lt (length h) count) [
      | inr within ↦ rw (take-append-le count h (entry ∷ []) within) (before count from within)
      | inl behind ↦ let whole : take count (h ++ entry ∷ []) ≡ h ++ entry ∷ [] = take_all count (h ++ entry ∷ []) (omega arith) in rw whole here
    ]

pub none_comes_back : (graph : Graph) (h : List Entry) (entry : Entry) (profile : ℕ) → LeavesSlot graph h entry profile →
    IsSlot graph h profile None → IsSlot graph (h ++ entry ∷ []) profile None
none_comes_back graph h entry profile leaves none place prep s = none place prep (slot_was_left graph h entry profile place prep leaves s)

pub stays_in_slot : (graph : Graph) (h : List Entry) (entry : Entry) (profile place : ℕ) (prep : Preparation) → LeavesSlot graph h entry profile →
    IsInSlot graph h profile place prep → Covers graph (h ++ entry ∷ []) prep → IsInSlot graph (h ++ entry ∷ []) profile place prep
stays_in_slot graph h entry profile place prep leaves s covers = record {
  effect = effect_keeps graph h entry profile place prep s.effect;
  last = λ later other behind t. elim (cases_lt (length h) later) [
    | inr within ↦ s.last later other behind (effect_was graph h entry profile later other within t)
    | inl beyond ↦ leaves other (effect_last graph h entry profile later other beyond t)
  ];
  stays = covers_on graph h entry place prep s.stays covers;
}

-- a preparation that no longer covers the limits leaves its slot empty
pub leaves_slot : (graph : Graph) (h : List Entry) (entry : Entry) (profile place : ℕ) (prep : Preparation) → LeavesSlot graph h entry profile →
    IsInSlot graph h profile place prep → (¬ Covers graph (h ++ entry ∷ []) prep) → IsSlot graph (h ++ entry ∷ []) profile None
leaves_slot graph h entry profile place prep leaves s above other_place other t =
    let was = slot_was_left graph h entry profile other_place other leaves t in
    let same : prep ≡ other = (one_in_slot graph h profile place other_place prep other s was).1 in
    above (subst (λ (p : Preparation). Covers graph (h ++ entry ∷ []) p) (sym same) (slots_cover graph (h ++ entry ∷ []) profile other_place other t))

-- a publication changes no limit
pub limits_stay : (graph : Graph) (h : List Entry) (entry : Entry) (prep : Preparation) → entry.what ≡ Publish prep → limit_after graph (h ++ entry ∷ []) ≡ limit_after graph h
limits_stay graph h entry prep what = fun_ext (λ by. limit_after-push graph h entry by ∙ (rw what refl))

-- so what is covered before it is covered after it
pub covers_along : (graph : Graph) (h : List Entry) (entry : Entry) (prep : Preparation) → entry.what ≡ Publish prep →
    (other : Preparation) → Covers graph h other → Covers graph (h ++ entry ∷ []) other
covers_along graph h entry prep what other covers =
    subst (λ (limits : DirEdge → ℕ). AreNowhereAbove graph limits (limit_in other.snapshot)) (sym (limits_stay graph h entry prep what)) covers

pub newest_is_in_slot : (graph : Graph) (h : List Entry) (entry : Entry) (profile : ℕ) (prep : Preparation) →
    Publishes graph h entry profile prep → IsInSlot graph (h ++ entry ∷ []) profile (length h + 1) prep
newest_is_in_slot graph h entry profile prep p =
    let grown : length (h ++ entry ∷ []) ≡ length h + 1 = length_push h entry in
    let place : length h + 1 - 1 ≡ length h = omega arith in
    let front : take (length h) (h ++ entry ∷ []) ≡ h = take-append-le (length h) h (entry ∷ []) (omega arith) ∙ take_all (length h) h (omega arith) in
    record {
      effect = record {
        from_one = omega arith;
        entry = entry;
        entry_is = slice_get_pushed h entry (length h + 1 - 1) place;
        publishes = rw (place, front) p;
      };
      last = λ later other behind t. let within = effect_within graph (h ++ entry ∷ []) profile later other t in omega arith;
      stays = λ count from to. let whole : take count (h ++ entry ∷ []) ≡ h ++ entry ∷ [] = take_all count (h ++ entry ∷ []) (omega arith) in
          rw whole (covers_along graph h entry prep p.what prep p.covers);
    }

-- without a publication over it, a slot is empty after an entry exactly where its preparation no longer covers the limits
pub leaves_when_above : (graph : Graph) (h : List Entry) (entry : Entry) (profile place : ℕ) (prep : Preparation) → LeavesSlot graph h entry profile →
    IsInSlot graph h profile place prep → IsSlot graph (h ++ entry ∷ []) profile None ↔ (¬ Covers graph (h ++ entry ∷ []) prep)
leaves_when_above graph h entry profile place prep leaves s =
    (λ none covers. none place prep (stays_in_slot graph h entry profile place prep leaves s covers), leaves_slot graph h entry profile place prep leaves s)
