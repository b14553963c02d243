-- What is set above a number: half the way to its leader, or another leader.
use Rattle.std.specs.Prelude.{slice_index, slice_set, ◌==◌}
use Rattle.std.proofs.Common.{◌≡◌, ◌≢◌, ℕ, ◌<◌, ◌≤◌, true, false, min, max, List, length, length-set, refl, sym, ap, ◌∙◌, inl, inr, arith}
use Rattle.std.proofs.lemmas.Bool.{cases_eq, eq-eqb, ne_eqb}
use Rattle.std.proofs.lemmas.List.{get_or-set_same, get_or-set_other}
use Rattle.landmark_choice.specs.Grouping.{IsForest, Leads, merged}

module _ (above : List ℕ) (at more : ℕ) (l : at < length above) where
  -- the one that was set, and the others
  set_here : slice_index (slice_set above at more) at ≡ more
  set_here = get_or-set_same above at more 0 l

  set_there : (one : ℕ) → one ≢ at → slice_index (slice_set above at more) one ≡ slice_index above one
  set_there one ne = get_or-set_other above at one more 0 ne

  pub set_forest : IsForest above → more ≤ at → IsForest (slice_set above at more)
  set_forest f less one within = elim (cases_eq one at) [
    | inl e ↦ let x : slice_index (slice_set above at more) one ≡ more = ap (slice_index (slice_set above at more)) e ∙ set_here in omega arith
    | inr ne ↦ let x = set_there one ne in let y = f one (omega (arith, length-set above at more)) in omega arith
  ]

  -- under another of its group that is less
  pub set_leads : (leader : ℕ → ℕ) → Leads above leader → more < at → leader more ≡ leader at → Leads (slice_set above at more) leader
  set_leads leader h less same = record {
    down = set_forest h.down (omega arith);
    same = λ one within. elim (cases_eq one at) [
      | inl e ↦ ap leader (ap (slice_index (slice_set above at more)) e ∙ set_here) ∙ same ∙ ap leader (sym e)
      | inr ne ↦ ap leader (set_there one ne) ∙ h.same one (omega (arith, length-set above at more))
    ];
    root = λ one within own. elim (cases_eq one at) [
      | inl e ↦ absurd (let x : slice_index (slice_set above at more) one ≡ more = ap (slice_index (slice_set above at more)) e ∙ set_here in omega arith)
      | inr ne ↦ h.root one (omega (arith, length-set above at more)) (sym (set_there one ne) ∙ own)
    ];
    below = λ one within. h.below one (omega (arith, length-set above at more));
    own = λ one within. h.own one (omega (arith, length-set above at more));
  }

-- half the way
pub halved_forest : (above : List ℕ) (at : ℕ) → at < length above → IsForest above → IsForest (slice_set above at (slice_index above (slice_index above at)))
halved_forest above at l f =
    let x = f at l in let y = f (slice_index above at) (omega arith) in
    set_forest above at (slice_index above (slice_index above at)) l f (omega arith)

pub halved : (above : List ℕ) (at : ℕ) (leader : ℕ → ℕ) → at < length above → slice_index above at ≢ at → Leads above leader → Leads (slice_set above at (slice_index above (slice_index above at))) leader
halved above at leader l ne h =
    let x = h.down at l in let y = h.down (slice_index above at) (omega arith) in
    set_leads above at (slice_index above (slice_index above at)) l leader h (omega arith) (h.same (slice_index above at) (omega arith) ∙ h.same at l)

-- one leader above another makes their groups one
module _ (above : List ℕ) (low high : ℕ) (leader new : ℕ → ℕ) (h : Leads above leader) (l : high < length above) (less : low ≤ high) (own_low : leader low ≡ low) (own_high : leader high ≡ high) (moved : (one : ℕ) → leader one ≡ high → new one ≡ low) (kept : (one : ℕ) → leader one ≢ high → new one ≡ leader one) where
  new_low : new low ≡ low
  new_low = elim (cases_eq low high) [
    | inl e ↦ moved low (own_low ∙ e)
    | inr ne ↦ kept low (λ x. ne (sym own_low ∙ x)) ∙ own_low
  ]

  new_same : (one other : ℕ) → leader one ≡ leader other → new one ≡ new other
  new_same one other e = elim (cases_eq (leader one) high) [
    | inl x ↦ moved one x ∙ sym (moved other (sym e ∙ x))
    | inr ne ↦ kept one ne ∙ e ∙ sym (kept other (λ x. ne (e ∙ x)))
  ]

  linked : Leads (slice_set above high low) new
  linked = record {
    down = set_forest above high low l h.down less;
    same = λ one within. elim (cases_eq one high) [
      | inl e ↦ ap new (ap (slice_index (slice_set above high low)) e ∙ set_here above high low l) ∙ new_low ∙ sym (moved high own_high) ∙ ap new (sym e)
      | inr ne ↦ ap new (set_there above high low l one ne) ∙ new_same (slice_index above one) one (h.same one (omega (arith, length-set above high low)))
    ];
    root = λ one within own. elim (cases_eq one high) [
      | inl e ↦ ap new (sym (sym (ap (slice_index (slice_set above high low)) e ∙ set_here above high low l) ∙ own)) ∙ new_low ∙ (sym (ap (slice_index (slice_set above high low)) e ∙ set_here above high low l) ∙ own)
      | inr ne ↦
          let root : leader one ≡ one = h.root one (omega (arith, length-set above high low)) (sym (set_there above high low l one ne) ∙ own) in
          kept one (λ x. ne (sym root ∙ x)) ∙ root
    ];
    below = λ one within.
        let b = h.below one (omega (arith, length-set above high low)) in
        elim (cases_eq (leader one) high) [
          | inl e ↦ let x = moved one e in omega arith
          | inr ne ↦ let x = kept one ne in omega arith
        ];
    own = λ one within. elim (cases_eq (leader one) high) [
      | inl e ↦ ap new (moved one e) ∙ new_low ∙ sym (moved one e)
      | inr ne ↦
          let own : leader (leader one) ≡ leader one = h.own one (omega (arith, length-set above high low)) in
          ap new (kept one ne) ∙ kept (leader one) (λ x. ne (sym own ∙ x)) ∙ own ∙ sym (kept one ne)
    ];
  }

module _ (above : List ℕ) (leader : ℕ → ℕ) (a b first second : ℕ) (h : Leads above leader) (la : a < length above) (lb : b < length above) (ea : first ≡ leader a) (eb : second ≡ leader b) where
  own_first : leader first ≡ first
  own_first = ap leader ea ∙ h.own a la ∙ sym ea

  own_second : leader second ≡ second
  own_second = ap leader eb ∙ h.own b lb ∙ sym eb

  moved_to : (high low : ℕ) → high ≡ max (leader a) (leader b) → low ≡ min (leader a) (leader b) → (one : ℕ) → leader one ≡ high → merged leader (leader a) (leader b) one ≡ low
  moved_to high low eh el one e = let t : (leader one == max (leader a) (leader b)) ≡ true = eq-eqb (leader one) (max (leader a) (leader b)) (e ∙ eh) in rw t (sym el)

  kept_at : (high : ℕ) → high ≡ max (leader a) (leader b) → (one : ℕ) → leader one ≢ high → merged leader (leader a) (leader b) one ≡ leader one
  kept_at high eh one ne = let f : (leader one == max (leader a) (leader b)) ≡ false = ne_eqb (leader one) (max (leader a) (leader b)) (λ x. ne (x ∙ sym eh)) in rw f refl

  pub second_under : first < second → Leads (slice_set above second first) (merged leader (leader a) (leader b))
  second_under l =
      let eh : second ≡ max (leader a) (leader b) = omega arith in
      let el : first ≡ min (leader a) (leader b) = omega arith in
      linked above first second leader (merged leader (leader a) (leader b)) h (let x = h.below b lb in omega arith) (omega arith) own_first own_second (moved_to second first eh el) (kept_at second eh)

  pub first_under : second ≤ first → Leads (slice_set above first second) (merged leader (leader a) (leader b))
  first_under l =
      let eh : first ≡ max (leader a) (leader b) = omega arith in
      let el : second ≡ min (leader a) (leader b) = omega arith in
      linked above second first leader (merged leader (leader a) (leader b)) h (let x = h.below a la in omega arith) (omega arith) own_second own_first (moved_to first second eh el) (kept_at first eh)
