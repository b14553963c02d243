-- The longest front of a text that can still be continued to a decimal.
use Rattle.std.proofs.Common.{◌≡◌, ◌⊎◌, inl, inr, ℕ, ◌+◌, ◌-◌, ◌<◌, ◌≤◌, min, Bool, true, false, cond, List, [], ◌∷◌, length, drop, get_or, refl, subst, arith, length-drop}
use Rattle.std.specs.Prelude.{◌==◌}
use Rattle.std.specs.List.{prefix_len}
use Rattle.std.specs.Char.{is_ascii_digit}
use Rattle.std.proofs.lemmas.List.{get_or-drop}
use Rattle.std.proofs.lemmas.List.Sums.{prefix_len-le-length, prefix_len_passes, prefix_len_stops}
use Rattle.std.proofs.lemmas.Bool.Decides.{nat_tests}
use Rattle.gh_base.specs.Decimals.{IsLongestFront}
use Rattle.gh_base.proofs.Fronts.{DigitsEnd, sign, ends_without_dot, ends_with_dot}
use Rattle.model_texts.specs.Amounts.{front_of, digits_end, whole_end, goes_on}

digits : List ℕ → ℕ → ℕ
digits text start = prefix_len is_ascii_digit (drop start text)

ends : (text : List ℕ) (start most : ℕ) → start ≤ length text → DigitsEnd text start most (digits_end text start most)
ends text start most le =
    let rest = drop start text in
    let short = prefix_len-le-length is_ascii_digit rest in
    let size = length-drop start text in
    record {
      within = omega (arith, short, size);
      least = omega arith;
      most = omega arith;
      digits = λ i above below.
          let e : start + (i - start) ≡ i = omega arith in
          let P : ℕ → Type 0 = λ j. is_ascii_digit (get_or text j 0) ≡ true in
          let here : is_ascii_digit (get_or rest (i - start) 0) ≡ true = prefix_len_passes is_ascii_digit rest (i - start) 0 (omega arith) in
          subst P e (subst (λ b. is_ascii_digit b ≡ true) (get_or-drop start text (i - start) 0) here);
      end = λ more room.
          let stop : start + min most (prefix_len is_ascii_digit rest) ≡ start + prefix_len is_ascii_digit rest = omega arith in
          let here : is_ascii_digit (get_or rest (prefix_len is_ascii_digit rest) 0) ≡ false = prefix_len_stops is_ascii_digit rest 0 (omega (arith, size)) in
          rw stop (subst (λ b. is_ascii_digit b ≡ false) (get_or-drop start text (prefix_len is_ascii_digit rest) 0) here);
    }

sign_within : (text : List ℕ) → sign text ≤ length text
sign_within [] = omega arith
sign_within (x ∷ xs) = by (x == 45)
  where
    by : (b : Bool) → cond b 1 0 ≤ length (x ∷ xs)
    by true = omega arith
    by false = omega arith

record Goes (start places dot : ℕ) (text : List ℕ) : Type 0 where
  some : start < dot
  may : 0 < places
  more : dot < length text
  at : get_or text dot 0 ≡ 46

goes : (places : ℕ) (text : List ℕ) (start dot : ℕ) → goes_on places text start dot ≡ true → Goes start places dot text
goes places text start dot e = record {
  some = grind (arith, nat_tests);
  may = grind (arith, nat_tests);
  more = grind (arith, nat_tests);
  at = grind (arith, nat_tests);
}

stays : (places : ℕ) (text : List ℕ) (start dot : ℕ) → goes_on places text start dot ≡ false → (start < dot) × (0 < places) × (dot < length text) × (get_or text dot 0 ≡ 46) → ⊥
stays places text start dot e h = let a = h.0 in let b = h.1 in let c = h.2 in let d = h.3 in grind (arith, nat_tests)

pub is_longest : (places : ℕ) (text : List ℕ) → IsLongestFront places text (front_of places text)
unfolding front_of
is_longest places text =
    elim (goes_on places text (sign text) (whole_end text)) as (λ b. goes_on places text (sign text) (whole_end text) ≡ b → IsLongestFront places text (cond b (digits_end text (whole_end text + 1) places) (whole_end text))) [
      | true ↦ (λ e.
          let g = goes places text (sign text) (whole_end text) e in
          ends_with_dot places text (whole_end text) (digits_end text (whole_end text + 1) places) (ends text (sign text) 9 (sign_within text)) g.some g.may g.more g.at (ends text (whole_end text + 1) places (let m = g.more in omega arith)))
      | false ↦ (λ e. ends_without_dot places text (whole_end text) (ends text (sign text) 9 (sign_within text)) (stays places text (sign text) (whole_end text) e))
    ] refl

order : (a b : ℕ) → (a < b) ⊎ (a ≡ b) ⊎ (b < a)
order a b = grind arith

pub front_is : (places : ℕ) (text : List ℕ) (byte : ℕ) → IsLongestFront places text byte → byte ≡ front_of places text
front_is places text byte h = by (front_of places text) (is_longest places text)
  where
    by : (n : ℕ) → IsLongestFront places text n → byte ≡ n
    by n k = elim (order byte n) [
      | inl less ↦ absurd (h.stuck n less k.within k.goes_on)
      | inr rest ↦ elim rest [ inl same ↦ same | inr more ↦ absurd (k.stuck byte more h.within h.goes_on) ]
    ]
