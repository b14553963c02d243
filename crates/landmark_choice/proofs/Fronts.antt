-- A choice is determined, and one with a lesser count is its front.
use Rattle.std.proofs.Common.{◌≡◌, ℕ, ◌<◌, ◌≤◌, List, [], ◌∷◌, ◌++◌, length, take, zero, suc, refl, sym, subst, ap, ◌∙◌, inl, inr, arith}
use Rattle.std.specs.Prelude.{slice_index}
use Rattle.std.proofs.lemmas.Bool.{cases_lt}
use Rattle.std.proofs.lemmas.List.{take_all}
use Rattle.std.proofs.Math.Seq.{take-suc, take-length}
use Rattle.gh_base.specs.Networks.{Network}
use Rattle.landmark_choice.specs.Farthest.{IsNearAt, IsFarthest, AreFarthest, ChoicesAreFronts}

-- there is one farthest node
one_farthest : (network : Network) (sources : List ℕ) (a b d e : ℕ) → IsFarthest network sources a d → IsFarthest network sources b e → a ≡ b
one_farthest network sources a b d e f g =
    let down : d ≤ e = g.greatest a d f.at in
    let up : e ≤ d = f.greatest b e g.at in
    elim (cases_lt a b) [
      | inl l ↦ absurd (let x : d < e = g.first a d f.at l in omega arith)
      | inr m ↦ elim (cases_lt b a) [
        | inl l ↦ absurd (let x : e < d = f.first b e g.at l in omega arith)
        | inr n ↦ omega arith
      ]
    ]

module _ (network : Network) (start : ℕ) (xs ys : List ℕ) (f : AreFarthest network start xs) (g : AreFarthest network start ys) where
  -- the same front, as far as both go
  same_front : (k : ℕ) → k ≤ length xs → k ≤ length ys → take k xs ≡ take k ys
  same_front zero l m = refl
  same_front (suc k) l m =
      let front : take k xs ≡ take k ys = same_front k (omega arith) (omega arith) in
      let last : slice_index xs k ≡ slice_index ys k = same_at k (omega arith) (omega arith) front in
      take-suc xs k 0 (omega arith) ∙ ap (λ (n : ℕ). take k xs ++ n ∷ []) last ∙ ap (λ (zs : List ℕ). zs ++ slice_index ys k ∷ []) front ∙ sym (take-suc ys k 0 (omega arith)) where
        same_at : (k : ℕ) → k < length xs → k < length ys → take k xs ≡ take k ys → slice_index xs k ≡ slice_index ys k
        same_at zero l m e = one_farthest network (start ∷ []) (slice_index xs 0) (slice_index ys 0) f.first_distance g.first_distance f.first g.first
        same_at (suc k) l m e =
            let x = f.further (suc k) (omega arith) l in
            let y = g.further (suc k) (omega arith) m in
            one_farthest network (take (suc k) xs) (slice_index xs (suc k)) (slice_index ys (suc k)) x.0 y.0 x.1 (subst (λ (zs : List ℕ). IsFarthest network zs (slice_index ys (suc k)) y.0) (sym e) y.1)

  -- what ended, as no node is at a distance above 0, is no front of more
  no_more : ((node d : ℕ) → IsNearAt network xs node d → d ≡ 0) → length xs < length ys → ⊥
  no_more z l =
      let more = g.further (length xs) f.some l in
      let front : take (length xs) ys ≡ xs = sym (same_front (length xs) (omega arith) (omega arith)) ∙ take-length xs in
      let none = z (slice_index ys (length xs)) more.0 (subst (λ (zs : List ℕ). IsNearAt network zs (slice_index ys (length xs)) more.0) front more.1.at) in
      let some = more.2 in omega arith

pub choices_fronts : ChoicesAreFronts
choices_fronts network start count fewer landmarks others less c o =
    let w = o.within in
    let long : length others ≤ length landmarks = elim (cases_lt (length landmarks) (length others)) [
      | inr le ↦ le
      | inl more ↦ absurd (elim c.ends [ inl e ↦ omega arith | inr z ↦ no_more network start landmarks others c.each o.each z more ])
    ] in
    let front : take (length others) landmarks ≡ others = same_front network start landmarks others c.each o.each (length others) long (omega arith) ∙ take-length others in
    elim o.ends [
      | inl e ↦ sym (ap (λ (k : ℕ). take k landmarks) (sym e) ∙ front)
      | inr z ↦ elim (cases_lt (length others) (length landmarks)) [
        | inl more ↦ absurd (no_more network start others landmarks o.each c.each z more)
        | inr all ↦ sym (take_all fewer landmarks (omega arith) ∙ sym (take_all (length others) landmarks all) ∙ front)
      ]
    ]
