-- What stands for a history, with an entry behind it.
use Rattle.std.proofs.Common.{◌≡◌, ℕ, ◌+◌, ◌-◌, ◌<◌, ◌≤◌, ◌==◌, if◌then◌else◌, Bool, true, false, not, List, [], ◌∷◌, ◌++◌, length, get_or, Option, Some, None, refl, ap, ◌∙◌, sym, subst, arith, rules, inl, inr}
use Rattle.std.specs.Prelude.{slice_get, slice_set, slice_index_or, unwrap_or, nat_le, MatchOption, IsTrue, ◌↔◌}
use Rattle.std.specs.Option.{is_some}
use Rattle.std.specs.Bool.{then_some}
use Rattle.std.proofs.Math.Path.{fun_ext}
use Rattle.std.proofs.lemmas.Bool.{cases_eq, eq-eqb}
use Rattle.std.proofs.lemmas.Bool.Decides.{eqb_tells, nat_tests}
use Rattle.std.proofs.lemmas.Option.{same_Some, slice_get_within, get_or_from_slice_get}
use Rattle.std.proofs.lemmas.List.Elements.{All-get_or, All-push}
use Rattle.std.proofs.lemmas.List.{length_push, get_or-set_same, get_or-set_other, length-set}
use Rattle.gh_base.specs.declared.edges.DirEdge.{DirEdge}
use Rattle.traffic_core.specs.declared.entry.Entry.{Entry}
use Rattle.traffic_core.specs.declared.entry.What.{What}
use Rattle.traffic_core.specs.declared.entry.What.TheVariants.{Lower, Restore, Publish}
use Rattle.base_graph.specs.Graphs.{Graph}
use Rattle.weighting.specs.SlowRoads.{AreNowhereAbove}
use Rattle.landmark_prep.specs.Preparations.{Preparation}
use Rattle.traffic_core.specs.Lands.{Land}
use Rattle.traffic_core.specs.History.{index_of, limit_in, limit_after, speed_by, AreLimitsAfter, Covers, IsInSlot, IsSlot, IsFirstBelow, LeavesSlot}
use Rattle.traffic_core.specs.Standing.{State, AreSlotsAfter, AreOnLand, IsOnLand, Stands, CanTake}
use Rattle.traffic_core.specs.Rows.{opening_limits}
use Rattle.traffic_core.specs.Steps.{Changes, HasTaken, IsCounted}
use Rattle.traffic_core.proofs.LimitIndex.{index_within, limits_before}
use Rattle.traffic_core.proofs.LimitsAfter.{limit_after-push}
use Rattle.traffic_core.proofs.SlotsAfter.{none_comes_back, stays_in_slot, leaves_slot, slots_cover, effect_within, newest_is_in_slot, limits_stay}

-- what a change gives a directed edge
pub speed_by-changes : (what : What) (by at : DirEdge) (speed : ℕ) → Changes what by speed → speed_by at what ≡ (if index_of by == index_of at then Some speed else None)
speed_by-changes what by at speed is = elim is [ inl e ↦ rw e refl | inr e ↦ rw e refl ]

-- the limit after a change is the speed at that directed edge, and as before at others
pub limit_after-change : (graph : Graph) (h : List Entry) (entry : Entry) (by at : DirEdge) (speed : ℕ) → Changes entry.what by speed →
    limit_after graph (h ++ entry ∷ []) at ≡ unwrap_or (if index_of by == index_of at then Some speed else None) (limit_after graph h at)
limit_after-change graph h entry by at speed is =
    limit_after-push graph h entry at ∙ ap (λ (o : Option ℕ). unwrap_or o (limit_after graph h at)) (speed_by-changes entry.what by at speed is)

-- a list of limits with that speed set
pub limit_in-set : (limits : List ℕ) (by at : DirEdge) (speed : ℕ) → index_of by < length limits →
    limit_in (slice_set limits (index_of by) speed) at ≡ unwrap_or (if index_of by == index_of at then Some speed else None) (limit_in limits at)
limit_in-set limits by at speed within = elim (eqb_tells (index_of by) (index_of at)) [
  | inl same ↦ rw same.0 (rw (← same.1) (get_or-set_same limits (index_of by) speed 0 within))
  | inr other ↦ rw other.0 (get_or-set_other limits (index_of by) (index_of at) speed 0 (λ e. other.1 (sym e)))
]

pub limits_after_change : (graph : Graph) (h : List Entry) (limits : List ℕ) (entry : Entry) (by : DirEdge) (speed : ℕ) → Changes entry.what by speed →
    by.edge.0 < length graph.edges → AreLimitsAfter graph h limits → AreLimitsAfter graph (h ++ entry ∷ []) (slice_set limits (index_of by) speed)
limits_after_change graph h limits entry by speed is within are = record {
  long = length-set limits (index_of by) speed ∙ are.long;
  each = λ at. let inside : index_of by < length limits = index_within limits graph by are.long within in
      limit_in-set limits by at speed inside
      ∙ (ap (λ (n : ℕ). unwrap_or (if index_of by == index_of at then Some speed else None) n) (are.each at)
      ∙ sym (limit_after-change graph h entry by at speed is));
}

-- a change publishes nothing
pub change_leaves : (graph : Graph) (h : List Entry) (entry : Entry) (by : DirEdge) (speed profile : ℕ) → Changes entry.what by speed → LeavesSlot graph h entry profile
change_leaves graph h entry by speed profile is other p =
    let e : entry.what ≡ Publish other = p.what in
    elim is [ inl l ↦ let f : Lower by speed ≡ Publish other = sym l ∙ e in cc | inr r ↦ let f : Restore by speed ≡ Publish other = sym r ∙ e in cc ]

-- where no limit rises, each slot stays
pub slot_stays_below : (graph : Graph) (h : List Entry) (entry : Entry) (profile : ℕ) (place : Option ℕ) → LeavesSlot graph h entry profile →
    AreNowhereAbove graph (limit_after graph (h ++ entry ∷ [])) (limit_after graph h) → IsSlot graph h profile place → IsSlot graph (h ++ entry ∷ []) profile place
slot_stays_below graph h entry profile None leaves below none = none_comes_back graph h entry profile leaves none
slot_stays_below graph h entry profile (Some place) leaves below (prep, s) =
    (prep, stays_in_slot graph h entry profile place prep leaves s (λ by there. omega (arith, below by there, slots_cover graph h profile place prep s by there)))

-- an entry of a list that is of these roads is one of them
pub on_land_at : (land : Land) (h : List Entry) (i : ℕ) (entry : Entry) → AreOnLand land h → slice_get h i ≡ Some entry → IsOnLand land entry.what
on_land_at land h i entry all is =
    let at : get_or h i entry ≡ entry = get_or_from_slice_get h i entry entry is in
    let p : IsOnLand land (get_or h i entry).what = All-get_or (λ (e : Entry). IsOnLand land e.what) h i entry (slice_get_within h i entry is) all in
    subst (λ (e : Entry). IsOnLand land e.what) at p

-- the entry at the place in a slot lies within the history
pub place_within : (graph : Graph) (h : List Entry) (profile place : ℕ) → IsSlot graph h profile (Some place) → (1 ≤ place) × (place ≤ length h)
place_within graph h profile place (prep, s) = (s.effect.from_one, effect_within graph h profile place prep s.effect)

-- and it publishes the preparation in the slot
pub in_slot_by : (graph : Graph) (h : List Entry) (profile place : ℕ) (found : Entry) (prep : Preparation) → IsSlot graph h profile (Some place) →
    slice_get h (place - 1) ≡ Some found → found.what ≡ Publish prep → IsInSlot graph h profile place prep
in_slot_by graph h profile place found prep (held, s) is what =
    let entry : s.effect.entry ≡ found = same_Some _ _ (sym s.effect.entry_is ∙ is) in
    let e : Publish held ≡ Publish prep = sym s.effect.publishes.what ∙ (ap (λ (x : Entry). x.what) entry ∙ what) in
    let same : held ≡ prep = cc in
    subst (λ (p : Preparation). IsInSlot graph h profile place p) same s

-- no other entry does
pub in_slot_is_publication : (graph : Graph) (h : List Entry) (profile place : ℕ) (found : Entry) → IsSlot graph h profile (Some place) →
    slice_get h (place - 1) ≡ Some found → (prep : Preparation) × (found.what ≡ Publish prep)
in_slot_is_publication graph h profile place found (held, s) is =
    let entry : s.effect.entry ≡ found = same_Some _ _ (sym s.effect.entry_is ∙ is) in
    (held, ap (λ (x : Entry). x.what) (sym entry) ∙ s.effect.publishes.what)

-- what covered the limits before a change covers them after it exactly where its own limit there isn't below the speed
pub covers_after_change : (graph : Graph) (h : List Entry) (entry : Entry) (by : DirEdge) (speed : ℕ) (prep : Preparation) → Changes entry.what by speed →
    Covers graph h prep → speed ≤ limit_in prep.snapshot by → Covers graph (h ++ entry ∷ []) prep
covers_after_change graph h entry by speed prep is before low at there =
    let e = limit_after-change graph h entry by at speed is in
    let covered : limit_after graph h at ≤ limit_in prep.snapshot at = before at there in
    elim (eqb_tells (index_of by) (index_of at)) [
      | inl same ↦ let set : limit_after graph (h ++ entry ∷ []) at ≡ speed = rw same.0 at e in
          let enough : speed ≤ limit_in prep.snapshot at = subst (λ (i : ℕ). speed ≤ get_or prep.snapshot i 0) same.1 low in
          omega arith
      | inr other ↦ let stays : limit_after graph (h ++ entry ∷ []) at ≡ limit_after graph h at = rw other.0 at e in omega arith
    ]

pub low_where_covers : (graph : Graph) (h : List Entry) (entry : Entry) (by : DirEdge) (speed : ℕ) (prep : Preparation) → Changes entry.what by speed →
    by.edge.0 < length graph.edges → Covers graph (h ++ entry ∷ []) prep → speed ≤ limit_in prep.snapshot by
low_where_covers graph h entry by speed prep is there covers =
    let e = limit_after-change graph h entry by by speed is in
    let here : limit_after graph (h ++ entry ∷ []) by ≤ limit_in prep.snapshot by = covers by there in
    let set : limit_after graph (h ++ entry ∷ []) by ≡ speed = rw (eq-eqb (index_of by) (index_of by) refl) at e in
    omega arith

-- after a change a slot holds what it held, where that has no limit below the speed, and nothing elsewhere
pub slot_after_change : (graph : Graph) (h : List Entry) (entry : Entry) (by : DirEdge) (speed profile place : ℕ) (prep : Preparation) (low : Bool) →
    Changes entry.what by speed → by.edge.0 < length graph.edges → IsInSlot graph h profile place prep → low ≡ nat_le speed (limit_in prep.snapshot by) →
    IsSlot graph (h ++ entry ∷ []) profile (then_some low place)
slot_after_change graph h entry by speed profile place prep true is there s tells = (
  prep,
  stays_in_slot graph h entry profile place prep (change_leaves graph h entry by speed profile is) s
      (covers_after_change graph h entry by speed prep is (slots_cover graph h profile place prep s) (grind (arith, nat_tests))),
)
slot_after_change graph h entry by speed profile place prep false is there s tells =
    leaves_slot graph h entry profile place prep (change_leaves graph h entry by speed profile is) s
    (λ covers. let low = low_where_covers graph h entry by speed prep is there covers in grind (arith, nat_tests))

-- a publication takes only its own profile's slot, and that only where it takes effect
pub publication_leaves : (graph : Graph) (h : List Entry) (entry : Entry) (profile : ℕ) (prep : Preparation) → entry.what ≡ Publish prep →
    (prep.profile ≡ profile → Covers graph h prep → ⊥) → LeavesSlot graph h entry profile
publication_leaves graph h entry profile prep what not other p =
    let e : Publish prep ≡ Publish other = sym what ∙ p.what in
    let same : other ≡ prep = cc in
    not (ap (λ (x : Preparation). x.profile) (sym same) ∙ p.of_profile) (subst (λ (x : Preparation). Covers graph h x) same p.covers)

pub slot_stays_beside : (graph : Graph) (h : List Entry) (entry : Entry) (profile : ℕ) (place : Option ℕ) (prep : Preparation) → entry.what ≡ Publish prep →
    (prep.profile ≡ profile → Covers graph h prep → ⊥) → IsSlot graph h profile place → IsSlot graph (h ++ entry ∷ []) profile place
slot_stays_beside graph h entry profile place prep what not slot =
    slot_stays_below graph h entry profile place (publication_leaves graph h entry profile prep what not)
    (λ by there. let e : limit_after graph (h ++ entry ∷ []) by ≡ limit_after graph h by = ap (λ (f : DirEdge → ℕ). f by) (limits_stay graph h entry prep what) in omega arith) slot

-- what covers listed limits covers those after the history, and back
pub covers_listed : (graph : Graph) (h : List Entry) (limits : List ℕ) (prep : Preparation) → AreLimitsAfter graph h limits →
    AreNowhereAbove graph (limit_in limits) (limit_in prep.snapshot) → Covers graph h prep
covers_listed graph h limits prep are covered = subst (λ (f : DirEdge → ℕ). AreNowhereAbove graph f (limit_in prep.snapshot)) (fun_ext are.each) covered

pub listed_covered : (graph : Graph) (h : List Entry) (limits : List ℕ) (prep : Preparation) → AreLimitsAfter graph h limits →
    Covers graph h prep → AreNowhereAbove graph (limit_in limits) (limit_in prep.snapshot)
listed_covered graph h limits prep are covers = subst (λ (f : DirEdge → ℕ). AreNowhereAbove graph f (limit_in prep.snapshot)) (sym (fun_ext are.each)) covers

pub slots_after_publish : (land : Land) (h : List Entry) (limits : List ℕ) (slots : List (Option ℕ)) (len : ℕ) (entry : Entry) (prep : Preparation) →
    entry.what ≡ Publish prep → prep.profile < length land.profiles → AreLimitsAfter land.graph h limits → AreSlotsAfter land h slots → len ≡ length h →
    AreNowhereAbove land.graph (limit_in limits) (limit_in prep.snapshot) → AreSlotsAfter land (h ++ entry ∷ []) (slice_set slots prep.profile (Some (len + 1)))
slots_after_publish land h limits slots len entry prep what within are before is covered =
    let covers : Covers land.graph h prep = covers_listed land.graph h limits prep are covered in
    let there : prep.profile < length slots = rw before.count within in
    record {
      count = length-set slots prep.profile (Some (len + 1)) ∙ before.count;
      each = λ profile below. elim (cases_eq profile prep.profile) [
        | inl same ↦ rw (same, get_or-set_same slots prep.profile (Some (len + 1)) None there, is)
            (prep, newest_is_in_slot land.graph h entry prep.profile prep (record { what = what; of_profile = refl; covers = covers }))
        | inr other ↦ rw (get_or-set_other slots prep.profile profile (Some (len + 1)) None other)
            (slot_stays_beside land.graph h entry profile (slice_index_or slots profile None) prep what (λ e _. other (sym e)) (before.each profile below))
      ];
    }

pub slots_after_vain_publish : (land : Land) (h : List Entry) (limits : List ℕ) (slots : List (Option ℕ)) (entry : Entry) (prep : Preparation) →
    entry.what ≡ Publish prep → AreLimitsAfter land.graph h limits → AreSlotsAfter land h slots →
    (¬ AreNowhereAbove land.graph (limit_in limits) (limit_in prep.snapshot)) → AreSlotsAfter land (h ++ entry ∷ []) slots
slots_after_vain_publish land h limits slots entry prep what are before above = record {
  count = before.count;
  each = λ profile below. slot_stays_beside land.graph h entry profile (slice_index_or slots profile None) prep what
      (λ e covers. above (listed_covered land.graph h limits prep are covers)) (before.each profile below);
}

-- a publication changes no limit
pub limits_after_publish : (graph : Graph) (h : List Entry) (limits : List ℕ) (entry : Entry) (prep : Preparation) → entry.what ≡ Publish prep →
    AreLimitsAfter graph h limits → AreLimitsAfter graph (h ++ entry ∷ []) limits
limits_after_publish graph h limits entry prep what are = record {
  long = are.long;
  each = λ by. are.each by ∙ ap (λ (f : DirEdge → ℕ). f by) (sym (limits_stay graph h entry prep what));
}

-- a state that has taken and counted an entry stands for it
pub stands_counted : (old now : State) (h : List Entry) (entry : Entry) → CanTake old entry → Stands old h → IsCounted old now → HasTaken now (h ++ entry ∷ []) → Stands now (h ++ entry ∷ [])
stands_counted old now h entry can before same taken = record {
  on_land = rw same.land (All-push (λ (e : Entry). IsOnLand old.land e.what) h entry before.on_land can.on_land);
  limits = taken.limits;
  slots = taken.slots;
  len = rw (same.len, before.len) (sym (length_push h entry));
}

-- a slot tested below the next profile
pub tested_slot : (graph : Graph) (h : List Entry) (slots : List (Option ℕ)) (profile p : ℕ) (slot : Option ℕ) → profile < length slots →
    ((q : ℕ) → q < profile → IsSlot graph h q (slice_index_or slots q None)) → IsSlot graph h profile slot → p < profile + 1 →
    IsSlot graph h p (slice_index_or (slice_set slots profile slot) p None)
tested_slot graph h slots profile p slot within below here lt = elim (cases_eq p profile) [
  | inl same ↦ rw (same, get_or-set_same slots profile slot None within) here
  | inr other ↦ rw (get_or-set_other slots profile p slot None other) (below p (omega arith))
]

-- a preparation in its slot covers the limits of what stands for the history
pub limits_covered : (graph : Graph) (h : List Entry) (limits : List ℕ) (profile place : ℕ) (prep : Preparation) → AreLimitsAfter graph h limits →
    IsInSlot graph h profile place prep → AreNowhereAbove graph (limit_in limits) (limit_in prep.snapshot)
limits_covered graph h limits profile place prep are s = listed_covered graph h limits prep are (slots_cover graph h profile place prep s)

-- a slot is empty before any entry
pub slot_before : (graph : Graph) (profile : ℕ) → IsSlot graph [] profile None
slot_before graph profile place prep s = let within = effect_within graph [] profile place prep s.effect in let one = s.effect.from_one in absurd (omega arith)

-- before any entry a state has the limits that edges open with, and empty slots
pub stands_before : (land : Land) (state : State) → state.land ≡ land → state.limits ≡ opening_limits land.graph.edges → length state.slots ≡ length land.profiles →
    ((profile : ℕ) → profile < length land.profiles → slice_index_or state.slots profile None ≡ None) → state.len ≡ 0 → Stands state []
stands_before land state of limits count empty len = record {
  on_land = rw of (search rules);
  limits = rw (of, limits) (limits_before land.graph);
  slots = rw of (record { count = count; each = λ profile below. rw (empty profile below) (slot_before land.graph profile) });
  len = len;
}

-- a snapshot covers the limits, or there is a first directed edge at which it is below
pub covered_or_below : (graph : Graph) (limits : DirEdge → ℕ) (snapshot : List ℕ) (first : Option DirEdge) (none : Bool) → is_some first ≡ not none →
    MatchOption first (AreNowhereAbove graph limits (limit_in snapshot)) (IsFirstBelow graph limits snapshot) →
    IsTrue none ↔ AreNowhereAbove graph limits (limit_in snapshot)
covered_or_below graph limits snapshot None true tells covered = (λ t. covered, λ c. search rules)
covered_or_below graph limits snapshot None false tells covered = absurd (search rules)
covered_or_below graph limits snapshot (Some by) true tells is = absurd (search rules)
covered_or_below graph limits snapshot (Some by) false tells is = (λ t. absurd (search rules), λ covered. let low = covered by is.there in let below = is.below in absurd (omega arith))
