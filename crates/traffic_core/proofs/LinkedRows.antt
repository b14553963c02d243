-- Rows that are linked by heads: the way along one head, and a row more.
use Rattle.std.proofs.Common.{◌≡◌, ◌≢◌, ℕ, ◌+◌, ◌-◌, ◌<◌, ◌≤◌, List, [], ◌∷◌, ◌++◌, length, Option, Some, None, refl, ap, ◌∙◌, sym, arith, inl, inr, subst}
use Rattle.std.specs.Prelude.{slice_set, slice_index_or}
use Rattle.std.proofs.lemmas.Bool.{cases_lt, cases_eq}
use Rattle.std.proofs.lemmas.List.{length-set, length_push, get_or-set_same, get_or-set_other, get_or_append_left, get_or_push}
use Rattle.std.proofs.lemmas.Nat.{and_le_r}
use Rattle.traffic_core.specs.declared.rows.Row.{Row}
use Rattle.traffic_core.specs.Rows.{row_at, head_of, HasNoRow, IsLastBelow, AreLinked}

pub head_within : (heads place : ℕ) → 0 < heads → head_of heads place < heads
head_within heads place some = let low = and_le_r place (heads - 1) in omega arith

-- a search along a head: no row from the bound on is of the place, and the next is the last below the bound
pub record IsSought (heads : ℕ) (rows : List Row) (place : ℕ) (next : Option ℕ) : Type 0 where
  pub bound : ℕ
  pub within : bound ≤ length rows
  pub last : IsLastBelow heads rows (head_of heads place) bound next
  pub passed : (number : ℕ) → bound ≤ number → number < length rows → (row_at rows number).place ≢ place

-- rows that agree below a number have the same last row below it
pub last_along : (heads : ℕ) (rows more : List Row) (head below : ℕ) (last : Option ℕ) →
    ((number : ℕ) → number < below → (row_at more number).place ≡ (row_at rows number).place) → IsLastBelow heads rows head below last → IsLastBelow heads more head below last
last_along heads rows more head below None same is = λ other lt. rw (same other lt) (is other lt)
last_along heads rows more head below (Some number) same is = (is.0, rw (same number is.0) is.1, λ other from to. rw (same other to) (is.2 other from to))

-- a row of another head isn't the last of this one
pub last_past : (heads : ℕ) (rows : List Row) (head below : ℕ) (last : Option ℕ) → head_of heads (row_at rows below).place ≢ head →
    IsLastBelow heads rows head below last → IsLastBelow heads rows head (below + 1) last
last_past heads rows head below None apart is = λ other lt. elim (cases_eq other below) [ inl same ↦ rw same apart | inr unlike ↦ is other (omega arith) ]
last_past heads rows head below (Some number) apart is =
    (omega (arith, is.0), is.1, λ other from to. elim (cases_eq other below) [ inl same ↦ rw same apart | inr unlike ↦ is.2 other from (omega arith) ])

-- rows of the same places and links are linked alike
pub linked_by : (heads : List (Option ℕ)) (rows more : List Row) → length more ≡ length rows → ((q : ℕ) → (row_at more q).place ≡ (row_at rows q).place) →
    ((q : ℕ) → (row_at more q).next ≡ (row_at rows q).next) → AreLinked heads rows → AreLinked heads more
linked_by heads rows more len places nexts linked = record {
  some = linked.some;
  latest = λ head lt. rw len (last_along (length heads) rows more head (length rows) (slice_index_or heads head None) (λ q _. places q) (linked.latest head lt));
  links = λ q lt. rw (places q, nexts q)
      (last_along (length heads) rows more (head_of (length heads) (row_at rows q).place) q (row_at rows q).next (λ r _. places r) (linked.links q (omega arith)));
  once = λ first second lt below e. linked.once first second lt (omega arith) (sym (places first) ∙ (e ∙ places second));
}

-- a row may change its speed
pub linked_changed : (heads : List (Option ℕ)) (rows : List Row) (number : ℕ) (row : Row) → number < length rows →
    (row_at rows number).place ≡ row.place → (row_at rows number).next ≡ row.next → AreLinked heads rows → AreLinked heads (slice_set rows number row)
linked_changed heads rows number row below place next linked =
    let row_is : (q : ℕ) → q ≡ number → row_at (slice_set rows number row) q ≡ row = λ q e. rw e (get_or-set_same rows number row _ below) in
    let other_is : (q : ℕ) → q ≢ number → row_at (slice_set rows number row) q ≡ row_at rows q = λ q e. get_or-set_other rows number q row _ e in
    let places : (q : ℕ) → (row_at (slice_set rows number row) q).place ≡ (row_at rows q).place = λ q. elim (cases_eq q number) [
      | inl same ↦ ap (λ (r : Row). r.place) (row_is q same) ∙ (sym place ∙ ap (λ (n : ℕ). (row_at rows n).place) (sym same))
      | inr unlike ↦ ap (λ (r : Row). r.place) (other_is q unlike)
    ] in
    let nexts : (q : ℕ) → (row_at (slice_set rows number row) q).next ≡ (row_at rows q).next = λ q. elim (cases_eq q number) [
      | inl same ↦ ap (λ (r : Row). r.next) (row_is q same) ∙ (sym next ∙ ap (λ (n : ℕ). (row_at rows n).next) (sym same))
      | inr unlike ↦ ap (λ (r : Row). r.next) (other_is q unlike)
    ] in
    linked_by heads rows (slice_set rows number row) (length-set rows number row) places nexts linked

-- a row of a new place is linked in front of its head's
pub linked_pushed : (heads : List (Option ℕ)) (rows : List Row) (row : Row) (head number : ℕ) → head ≡ head_of (length heads) row.place → number ≡ length rows →
    HasNoRow rows row.place → row.next ≡ slice_index_or heads head None → AreLinked heads rows → AreLinked (slice_set heads head (Some number)) (rows ++ row ∷ [])
linked_pushed heads rows row head number head_is number_is fresh next linked =
    let heads_len : length (slice_set heads head (Some number)) ≡ length heads = length-set heads head (Some number) in
    let rows_len : length (rows ++ row ∷ []) ≡ length rows + 1 = length_push rows row in
    let inside : head < length heads = rw head_is (head_within (length heads) row.place linked.some) in
    let same : (q : ℕ) → q < length rows → row_at (rows ++ row ∷ []) q ≡ row_at rows q = λ q lt. get_or_append_left rows (row ∷ []) _ q lt in
    let places : (q : ℕ) → q < length rows → (row_at (rows ++ row ∷ []) q).place ≡ (row_at rows q).place = λ q lt. ap (λ (r : Row). r.place) (same q lt) in
    let top : row_at (rows ++ row ∷ []) (length rows) ≡ row = get_or_push rows row _ (length rows) refl in
    let top_head : head_of (length heads) (row_at (rows ++ row ∷ []) (length rows)).place ≡ head = ap (λ (r : Row). head_of (length heads) r.place) top ∙ sym head_is in
    let latest : (h : ℕ) → h < length heads → IsLastBelow (length heads) (rows ++ row ∷ []) h (length rows + 1) (slice_index_or (slice_set heads head (Some number)) h None) = λ h lt.
    elim (cases_eq h head) [
      | inl is ↦ rw (is, get_or-set_same heads head (Some number) None inside, number_is) (omega arith, top_head, λ other from to. absurd (omega arith))
      | inr unlike ↦ rw (get_or-set_other heads head h (Some number) None unlike)
          (last_past (length heads) (rows ++ row ∷ []) h (length rows) (slice_index_or heads h None) (λ e. unlike (sym e ∙ top_head))
          (last_along (length heads) rows (rows ++ row ∷ []) h (length rows) (slice_index_or heads h None) places (linked.latest h lt)))
    ] in
    let before : IsLastBelow (length heads) (rows ++ row ∷ []) head (length rows) row.next =
    subst (λ (last : Option ℕ). IsLastBelow (length heads) (rows ++ row ∷ []) head (length rows) last) (sym next)
    (last_along (length heads) rows (rows ++ row ∷ []) head (length rows) (slice_index_or heads head None) places (linked.latest head inside)) in
    record {
      some = rw heads_len linked.some;
      latest = λ h lt. rw (heads_len, rows_len) (latest h (omega arith));
      links = λ q lt. elim (cases_lt q (length rows)) [
        | inl under ↦ rw (heads_len, same q under) (last_along (length heads) rows (rows ++ row ∷ []) (head_of (length heads) (row_at rows q).place) q (row_at rows q).next
            (λ r below. places r (omega arith)) (linked.links q under))
        | inr over ↦ let at : q ≡ length rows = omega arith in rw (heads_len, at, top, ← head_is) before
      ];
      once = λ first second lt below e. elim (cases_lt second (length rows)) [
        | inl under ↦ linked.once first second lt under (sym (places first (omega arith)) ∙ (e ∙ places second under))
        | inr over ↦ let at : second ≡ length rows = omega arith in
            fresh first (omega arith) (sym (places first (omega arith)) ∙ (e ∙ (ap (λ (q : ℕ). (row_at (rows ++ row ∷ []) q).place) at ∙ ap (λ (r : Row). r.place) top)))
      ];
    }
