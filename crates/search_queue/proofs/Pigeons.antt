-- So many places have each a number of their own, so there are no more places than numbers.
use Rattle.std.proofs.Common.{◌≡◌, ◌≢◌, ℕ, ◌+◌, ◌<◌, ◌≤◌, ◌⊎◌, zero, suc, refl, sym, ap, ◌∙◌, inl, inr, arith}
use Rattle.std.proofs.lemmas.Bool.{cases_lt, cases_eq}

-- some number below k that f leads to n, or none
found : (k n : ℕ) (f : ℕ → ℕ) → ((i : ℕ) × (i < k) × (f i ≡ n)) ⊎ ((i : ℕ) → i < k → f i ≢ n)
found zero n f = inr (λ i l. absurd (omega arith))
found (suc k) n f = elim (cases_eq (f k) n) [
  | inl e ↦ inl (k, omega arith, e)
  | inr ne ↦ elim (found k n f) [
    | inl h ↦ inl (h.0, omega (arith, h.1), h.2)
    | inr none ↦ inr (λ i l. elim (cases_eq i k) [
      | inl same ↦ λ e. ne (sym (ap f same) ∙ e)
      | inr other ↦ none i (omega arith)
    ])
  ]
]

-- f with its value at s replaced
moved : (s x : ℕ) (f : ℕ → ℕ) (i : ℕ) → (y : ℕ) × ((i ≡ s → y ≡ x) × (i ≢ s → y ≡ f i))
moved s x f i = elim (cases_eq i s) [
  | inl e ↦ (x, ((λ _. refl), (λ ne. absurd (ne e))))
  | inr ne ↦ (f i, ((λ e. absurd (ne e)), (λ _. refl)))
]

pub pigeons : (n k : ℕ) (f : ℕ → ℕ) → ((i : ℕ) → i < k → f i < n) → ((i j : ℕ) → i < k → j < k → f i ≡ f j → i ≡ j) → k ≤ n
pigeons zero zero f w a = omega arith
pigeons zero (suc k) f w a = absurd (omega (arith, w 0 (omega arith)))
pigeons (suc n) zero f w a = omega arith
pigeons (suc n) (suc k) f w a = elim (found (suc k) n f) [
  | inr none ↦ omega (arith, pigeons n (suc k) f (λ i l. let ne = none i l in omega (arith, w i l)) a)
  | inl h ↦
      let g = λ (i : ℕ). (moved h.0 (f k) f i).0 in
      omega (
        arith,
        pigeons n k g
            (λ i l. elim (cases_eq i h.0) [
              | inl e ↦ let m = (moved h.0 (f k) f i).1.0 e in let ne : f k ≢ n = λ x. let s = a k h.0 (omega arith) h.1 (x ∙ sym h.2) in omega arith in omega (arith, w k (omega arith))
              | inr other ↦ let m = (moved h.0 (f k) f i).1.1 other in let ne : f i ≢ n = λ x. let s = a i h.0 (omega arith) h.1 (x ∙ sym h.2) in omega arith in omega (arith, w i (omega arith))
            ])
            (λ i j l m same. elim (cases_eq i h.0) [
              | inl e ↦ elim (cases_eq j h.0) [
                | inl d ↦ omega arith
                | inr d ↦ let p = (moved h.0 (f k) f i).1.0 e in let q = (moved h.0 (f k) f j).1.1 d in absurd (let s = a k j (omega arith) (omega arith) (omega arith) in omega arith)
              ]
              | inr e ↦ elim (cases_eq j h.0) [
                | inl d ↦ let p = (moved h.0 (f k) f i).1.1 e in let q = (moved h.0 (f k) f j).1.0 d in absurd (let s = a k i (omega arith) (omega arith) (omega arith) in omega arith)
                | inr d ↦ let p = (moved h.0 (f k) f i).1.1 e in let q = (moved h.0 (f k) f j).1.1 d in a i j (omega arith) (omega arith) (omega arith)
              ]
            ]),
      )
]

-- where each of k places is that of some number below n, and one number has none, there are fewer
pub fewer : (n k : ℕ) (place : ℕ → ℕ) → ((i : ℕ) → i < k → (v : ℕ) × (v < n) × (place v ≡ i + 1)) → (u : ℕ) → u < n → place u ≡ 0 → k < n
fewer n k place owned u l none =
    omega (
      arith,
      pigeons n (suc k) at
          (λ i _. within i)
          (λ i j a b same. elim (cases_lt i k) [
            | inl x ↦ elim (cases_lt j k) [
              | inl y ↦ let p = owner i x in let q = owner j y in let s = ap place same in omega arith
              | inr y ↦ absurd (let p = owner i x in let q = nobody j y in let s = ap place same in omega arith)
            ]
            | inr x ↦ elim (cases_lt j k) [
              | inl y ↦ absurd (let p = nobody i x in let q = owner j y in let s = ap place same in omega arith)
              | inr y ↦ omega arith
            ]
          ]),
    )
  where
    choice : (i : ℕ) → (v : ℕ) × (v < n) × (i < k → place v ≡ i + 1) × (k ≤ i → place v ≡ 0)
    choice i = elim (cases_lt i k) [
      | inl x ↦ let o = owned i x in (o.0, o.1, (λ _. o.2), (λ y. absurd (omega arith)))
      | inr x ↦ (u, l, (λ y. absurd (omega arith)), (λ _. none))
    ]

    at : ℕ → ℕ
    at i = (choice i).0

    within : (i : ℕ) → at i < n
    within i = (choice i).1

    owner : (i : ℕ) → i < k → place (at i) ≡ i + 1
    owner i x = (choice i).2 x

    nobody : (i : ℕ) → k ≤ i → place (at i) ≡ 0
    nobody i x = (choice i).3 x
