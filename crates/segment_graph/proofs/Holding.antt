-- Values in words: what is held is what is read, and what was put is what is held.
use Rattle.std.proofs.Common.{◌≡◌, ℕ, ◌+◌, ◌*◌, ◌%◌, ◌^◌, ◌<◌, ◌≤◌, Bool, true, false, cond, eqb, List, [], ◌∷◌, ◌++◌, length, get_or, take, inl, inr, refl, sym, ap, ◌∙◌, subst, arith}
use Rattle.std.specs.Int.{from_bool}
use Rattle.std.proofs.lemmas.Bool.{cases_eq, eq-eqb, ne_eqb, lt-ltb}
use Rattle.std.proofs.lemmas.List.{get_or_append_left, get_or-take}
use Rattle.std.proofs.lemmas.List.FromFn.{take-map-range_with_len}
use Rattle.encoded_values.specs.Values.{Values, TwoValues, AreInRange}
use Rattle.value_plan.specs.Slots.{value_of, number_of, ChangesOnly}
use Rattle.value_plan.specs.Road.{HoldsAlong, HoldsSome, shared, for_each}
use Rattle.value_plan.proofs.OneRoad.{same}
use Rattle.segment_graph.specs.Roads.{value_word, held_along, road_of, roads_of, road_at, along}
use Rattle.segment_graph.proofs.Listing.{numbered_is, numbered_len, numbered_push, same_numbered}

-- a bit as a flag
flag : (bit : ℕ) → bit < 2 → bit ≡ from_bool (eqb bit 1)
flag bit l = elim (cases_eq bit 1) [
  | inl e ↦ rw (eq-eqb bit 1 e) e
  | inr other ↦ rw (ne_eqb bit 1 other) (omega arith)
]

one_bit : (m : ℕ) → m % 2 ^ 1 < 2
one_bit m = omega arith

pub holds : (number : ℕ) (reverse : Bool) → HoldsAlong number (held_along number reverse) reverse
unfolding held_along
holds number reverse = record {
  road_class = refl;
  road_class_link = flag (value_of number (shared 4 1) reverse) (one_bit _);
  roundabout = flag (value_of number (shared 5 1) reverse) (one_bit _);
  surface = refl;
  toll = refl;
  lanes = refl;
  max_speed = refl;
  car_access = flag (value_of number (for_each 23 1) reverse) (one_bit _);
  bike_access = flag (value_of number (for_each 25 1) reverse) (one_bit _);
  foot_access = flag (value_of number (for_each 27 1) reverse) (one_bit _);
  car_speed = refl;
  bike_speed = refl;
  foot_speed = refl;
}

pub held : (number : ℕ) (reverse : Bool) (values : Values) → HoldsAlong number values reverse → held_along number reverse ≡ values
held number reverse values h = same number reverse (held_along number reverse) values (holds number reverse) h

-- an edge's word
pub word_of_edge : (words : List ℕ) (edge index : ℕ) → index < 4 → value_word words edge index ≡ get_or words (4 * edge + index) 0
word_of_edge words edge index l = ap (λ (b : Bool). cond {A = ℕ} b (get_or words (4 * edge + index) 0) 0) (lt-ltb index 4 l)

-- the values of an edge whose four words are the same
same_number : (a b : ℕ → ℕ) → ((i : ℕ) → i < 4 → a i ≡ b i) → number_of a ≡ number_of b
same_number a b each =
    let zero : a 0 ≡ b 0 = each 0 (omega arith) in
    let one : a 1 ≡ b 1 = each 1 (omega arith) in
    let two : a 2 ≡ b 2 = each 2 (omega arith) in
    let three : a 3 ≡ b 3 = each 3 (omega arith) in
    omega arith

same_road : (words new : List ℕ) (edge : ℕ) → ((i : ℕ) → i < 4 → value_word new edge i ≡ value_word words edge i) → road_of new edge ≡ road_of words edge
same_road words new edge each =
    ap (λ (n : ℕ). let road : TwoValues = record { forward = held_along n false; reverse = held_along n true } in road) (same_number (value_word new edge) (value_word words edge) each)

-- an edge's values are put behind the others
pub road_pushed : (words more mid new : List ℕ) (count total : ℕ) (values : TwoValues) → length words ≡ 4 * count → mid ≡ words ++ more → total ≡ count + 1
    → ChangesOnly count (value_word mid) (value_word new)
    → HoldsAlong (number_of (value_word new count)) values.forward false
    → HoldsAlong (number_of (value_word new count)) values.reverse true
    → roads_of new total ≡ roads_of words count ++ values ∷ []
road_pushed words more mid new count total values l m t elsewhere forward reverse =
    ap (roads_of new) t
    ∙ numbered_push (road_of words) (road_of new) count (roads_of words count) values refl
    (λ k b. same_road words new k (λ i few.
    elsewhere k i (λ e. absurd (omega arith))
    ∙ (ap (λ (ws : List ℕ). value_word ws k i) m
    ∙ (word_of_edge (words ++ more) k i few
    ∙ (get_or_append_left words more 0 (4 * k + i) (omega arith) ∙ sym (word_of_edge words k i few))))))
    (λ j. record {
      forward = held (number_of (value_word new count)) false values.forward forward j;
      reverse = held (number_of (value_word new count)) true values.reverse reverse j;
    })

-- the values from an edge on are forgotten
pub roads_cut : (words new : List ℕ) (count cut total : ℕ) (roads : List TwoValues) → roads_of words count ≡ roads → new ≡ take (4 * cut) words → total ≡ cut → cut ≤ length roads
    → roads_of new total ≡ take cut roads
roads_cut words new count cut total roads is n t l =
    rw (n, t)
    (same_numbered (road_of (take (4 * cut) words)) (road_of words) cut
    (λ k b. same_road words (take (4 * cut) words) k (λ i few.
    word_of_edge (take (4 * cut) words) k i few
    ∙ (get_or-take (4 * cut) words (4 * k + i) 0 (omega arith) ∙ sym (word_of_edge words k i few))))
    ∙ (sym (take-map-range_with_len (road_of words) 0 count cut (omega (arith, numbered_len (road_of words) count roads is))) ∙ ap (take cut) is))

-- the values of an edge in a direction are those that its words hold
pub along_held : (words : List ℕ) (count edge : ℕ) (roads : List TwoValues) (reverse : Bool) → roads_of words count ≡ roads → edge < length roads
    → held_along (number_of (value_word words edge)) reverse ≡ along (road_at roads edge) reverse
along_held words count edge roads reverse is l =
    side (number_of (value_word words edge)) reverse
    ∙ ap (λ (road : TwoValues). along road reverse) (numbered_is (road_of words) count edge roads _ is l)
  where
    side : (number : ℕ) (reverse : Bool) → held_along number reverse ≡ along (record { forward = held_along number false; reverse = held_along number true }) reverse
    side number true = refl
    side number false = refl

pub holds_some : (words : List ℕ) (count edge : ℕ) (roads : List TwoValues) (reverse : Bool) → roads_of words count ≡ roads → edge < length roads
    → AreInRange (along (road_at roads edge) reverse) → HoldsSome (number_of (value_word words edge)) reverse
holds_some words count edge roads reverse is l range =
    let number = number_of (value_word words edge) in
    (held_along number reverse, subst AreInRange (sym (along_held words count edge roads reverse is l)) range, holds number reverse)
