-- The order of a heap, where a free place moves up or down or is filled.
use Rattle.std.proofs.Common.{◌≡◌, ◌≢◌, ℕ, ◌/◌, ◌<◌, ◌≤◌, zero, suc, ap, inl, inr, arith}
use Rattle.std.proofs.lemmas.Bool.{cases_eq}
use Rattle.search_queue.specs.Heaps.{IsBelow, AreOrdered, MayRise, MaySink}

-- no rank is below the first
pub least_first : (count : ℕ) (r : ℕ → ℕ) → AreOrdered count r → (at : ℕ) → at < count → r 0 ≤ r at
least_first count r o at l = up at at (omega arith) l where
  -- by induction on the place, since the place above has a smaller number
  up : (fuel at : ℕ) → at ≤ fuel → at < count → r 0 ≤ r at
  up zero at f l = let e : at ≡ 0 = omega arith in let same : r at ≡ r 0 = ap r e in omega arith
  up (suc fuel) zero f l = omega arith
  up (suc fuel) (suc at) f l =
      let parent = at / 4 in
      let below : IsBelow parent (suc at) = record { first = omega arith; last = omega arith } in
      let step : r parent ≤ r (suc at) = o parent (suc at) below l in
      let rest : r 0 ≤ r parent = up fuel parent (omega arith) (omega arith) in
      omega arith

-- a place is right below one place alone
one_above : {one other child : ℕ} → IsBelow one child → IsBelow other child → one ≡ other
one_above a b = omega (arith, a.first, a.last, b.first, b.last)

module _ {count : ℕ} {r r' : ℕ → ℕ} {hole key : ℕ} (filled : (at : ℕ) → at ≢ hole → r' at ≡ r at) where
  pub rise_step : (parent : ℕ) → MayRise count r hole key → IsBelow parent hole → hole < count → r' hole ≡ r parent → key < r parent → MayRise count r' parent key
  rise_step parent m above inside here less = record {
    others = λ p child b i np nc. elim (cases_eq child hole) [
      | inl e ↦ absurd (np (one_above b (let same = e in record { first = omega (arith, above.first); last = omega (arith, above.last) })))
      | inr ne ↦ elim (cases_eq p hole) [
        | inl e ↦
            let a = m.across parent child above (record { first = omega (arith, b.first); last = omega (arith, b.last) }) i in
            let x = ap r' e in
            omega (arith, filled child ne)
        | inr d ↦ omega (arith, filled child ne, filled p d, m.others p child b i d ne)
      ]
    ];
    across = λ p child b d i.
        let up : p ≢ hole = omega (arith, b.first, above.first) in
        let first = m.others p parent b (omega (arith, above.first)) up (omega (arith, above.first)) in
        elim (cases_eq child hole) [
          | inl e ↦ let x = ap r' e in omega (arith, filled p up)
          | inr ne ↦ omega (arith, filled p up, filled child ne, m.others parent child d i (omega (arith, above.first)) ne)
        ];
    below = λ child d i. elim (cases_eq child hole) [
      | inl e ↦ let x = ap r' e in omega arith
      | inr ne ↦ omega (arith, filled child ne, m.others parent child d i (omega (arith, above.first)) ne)
    ];
  }

  pub rise_end : MayRise count r hole key → r' hole ≡ key → ((parent : ℕ) → IsBelow parent hole → r parent ≤ key) → AreOrdered count r'
  rise_end m here stop parent child b i = elim (cases_eq child hole) [
    | inl e ↦
        let x = ap r' e in
        let s = stop parent (record { first = omega (arith, b.first); last = omega (arith, b.last) }) in
        let f = filled parent (omega (arith, b.first)) in
        omega arith
    | inr ne ↦ elim (cases_eq parent hole) [
      | inl e ↦
          let x = ap r' e in
          let s = m.below child (record { first = omega (arith, b.first); last = omega (arith, b.last) }) i in
          omega (arith, filled child ne)
      | inr d ↦ omega (arith, filled child ne, filled parent d, m.others parent child b i d ne)
    ]
  ]

  pub sink_step : (below : ℕ) → MaySink count r hole key → IsBelow hole below → below < count → ((other : ℕ) → IsBelow hole other → other < count → r below ≤ r other) → r' hole ≡ r below → r below < key → MaySink count r' below key
  sink_step below m under inside least here less = record {
    others = λ p child b i np nc. elim (cases_eq p hole) [
      | inl e ↦
          let x = ap r' e in
          let s = least child (record { first = omega (arith, b.first); last = omega (arith, b.last) }) i in
          omega (arith, filled child (omega (arith, b.first)))
      | inr d ↦ elim (cases_eq child hole) [
        | inl e ↦
            let x = ap r' e in
            let s = m.across p below (record { first = omega (arith, b.first); last = omega (arith, b.last) }) under inside in
            omega (arith, filled p d)
        | inr ne ↦ omega (arith, filled child ne, filled p d, m.others p child b i d ne)
      ]
    ];
    across = λ p child b d i.
        let same : p ≡ hole = one_above b under in
        let x = ap r' same in
        let s = m.others below child d i (omega (arith, under.first)) (omega (arith, under.first, d.first)) in
        omega (arith, filled child (omega (arith, under.first, d.first)));
    above = λ p b.
        let same : p ≡ hole = one_above b under in
        let x = ap r' same in
        omega arith;
  }

  pub sink_end : MaySink count r hole key → r' hole ≡ key → ((child : ℕ) → IsBelow hole child → child < count → key ≤ r child) → AreOrdered count r'
  sink_end m here stop parent child b i = elim (cases_eq child hole) [
    | inl e ↦
        let x = ap r' e in
        let s = m.above parent (record { first = omega (arith, b.first); last = omega (arith, b.last) }) in
        let f = filled parent (omega (arith, b.first)) in
        omega arith
    | inr ne ↦ elim (cases_eq parent hole) [
      | inl e ↦
          let x = ap r' e in
          let s = stop child (record { first = omega (arith, b.first); last = omega (arith, b.last) }) i in
          omega (arith, filled child ne)
      | inr d ↦ omega (arith, filled child ne, filled parent d, m.others parent child b i d ne)
    ]
  ]
