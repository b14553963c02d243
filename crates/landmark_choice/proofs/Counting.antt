-- Counts of what passes a test.
use Rattle.std.proofs.Common.{◌≡◌, ℕ, ◌+◌, ◌<◌, ◌≤◌, Bool, true, false, cond, List, length, length-set, zero, suc, refl, sym, ap, ◌∙◌, inl, inr, arith}
use Rattle.std.specs.Prelude.{slice_index, slice_set, ◌==◌}
use Rattle.std.proofs.lemmas.Bool.{cases_eq, eq-eqb, ne_eqb}
use Rattle.std.proofs.lemmas.List.{get_or-set_same, get_or-set_other}
use Rattle.walk_rules.specs.Starts.{count_below}
use Rattle.landmark_choice.specs.Grouping.{AreSizes}

-- tests that agree count the same
pub count_same : (first second : ℕ → Bool) (n : ℕ) → ((one : ℕ) → one < n → first one ≡ second one) → count_below first n ≡ count_below second n
count_same first second zero e = refl
count_same first second (suc n) e =
    let here : cond {A = ℕ} (first n) 1 0 ≡ cond {A = ℕ} (second n) 1 0 = ap (λ (b : Bool). cond {A = ℕ} b 1 0) (e n (omega arith)) in
    let rest = count_same first second n (λ one l. e one (omega arith)) in
    omega arith

-- one member more is counted
counted_next : (leader : ℕ → ℕ) (n one : ℕ) → count_below (λ member. leader member == one) (n + 1) ≡ cond {A = ℕ} (leader n == one) 1 0 + count_below (λ member. leader member == one) n
counted_next leader n one = let e : n + 1 ≡ suc n = omega arith in ap (count_below (λ member. leader member == one)) e

pub counted : (leader : ℕ → ℕ) (n r : ℕ) (sizes : List ℕ) → AreSizes leader n sizes → r ≡ leader n → r < length sizes → AreSizes leader (n + 1) (slice_set sizes r (slice_index sizes r + 1))
counted leader n r sizes s e l one within = elim (cases_eq one r) [
  | inl same ↦
      let here : slice_index (slice_set sizes r (slice_index sizes r + 1)) one ≡ slice_index sizes r + 1 = ap (slice_index (slice_set sizes r (slice_index sizes r + 1))) same ∙ get_or-set_same sizes r (slice_index sizes r + 1) 0 l in
      let t : (leader n == one) ≡ true = eq-eqb (leader n) one (sym e ∙ sym same) in
      let next : count_below (λ member. leader member == one) (n + 1) ≡ 1 + count_below (λ member. leader member == one) n = counted_next leader n one ∙ ap (λ (b : Bool). cond {A = ℕ} b 1 0 + count_below (λ member. leader member == one) n) t in
      let old : slice_index sizes r ≡ count_below (λ member. leader member == one) n = ap (slice_index sizes) (sym same) ∙ s one (omega arith) in
      omega arith
  | inr ne ↦
      let there : slice_index (slice_set sizes r (slice_index sizes r + 1)) one ≡ slice_index sizes one = get_or-set_other sizes r one (slice_index sizes r + 1) 0 ne in
      let f : (leader n == one) ≡ false = ne_eqb (leader n) one (λ x. ne (sym x ∙ sym e)) in
      let next : count_below (λ member. leader member == one) (n + 1) ≡ 0 + count_below (λ member. leader member == one) n = counted_next leader n one ∙ ap (λ (b : Bool). cond {A = ℕ} b 1 0 + count_below (λ member. leader member == one) n) f in
      let old = s one (omega (arith, length-set sizes r (slice_index sizes r + 1))) in
      omega arith
]

pub no_more_than : (sizes : List ℕ) (r n : ℕ) → r < length sizes → ((one : ℕ) → slice_index sizes one ≤ n) → (one : ℕ) → slice_index (slice_set sizes r (slice_index sizes r + 1)) one ≤ n + 1
no_more_than sizes r n l s one = elim (cases_eq one r) [
  | inl same ↦ let here : slice_index (slice_set sizes r (slice_index sizes r + 1)) one ≡ slice_index sizes r + 1 = ap (slice_index (slice_set sizes r (slice_index sizes r + 1))) same ∙ get_or-set_same sizes r (slice_index sizes r + 1) 0 l in let x = s r in omega arith
  | inr ne ↦ let there : slice_index (slice_set sizes r (slice_index sizes r + 1)) one ≡ slice_index sizes one = get_or-set_other sizes r one (slice_index sizes r + 1) 0 ne in let x = s one in omega arith
]
