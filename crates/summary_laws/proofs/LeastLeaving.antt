-- A choice of landmarks goes on as long as a hop with a weight above 0 leads out of them.
use Rattle.std.proofs.Common.{◌≡◌, ℕ, ◌<◌, ◌≤◌, ◌⊎◌, Bool, true, false, ◌&&◌, cond, List, [], ◌∷◌, length, Option, Some, None, IsSome, Contains, zero, suc, refl, sym, ap, subst, ◌∙◌, inl, inr, arith}
use Rattle.std.specs.Prelude.{◌==◌, not}
use Rattle.std.specs.Option.{is_some}
use Rattle.std.proofs.lemmas.Bool.{cases_Bool, cases_lt, eqb-true, eq-eqb}
use Rattle.gh_base.specs.declared.edges.Hop.{Hop}
use Rattle.gh_base.specs.Networks.{Network}
use Rattle.walk_rules.specs.Walks.{IsWalk, cost, hops_from, weight_of}
use Rattle.walk_rules.proofs.Options.{Contains-cons_cases}
use Rattle.landmark_choice.specs.Farthest.{IsChoice, IsNearAt}

-- whether a number is one of these
abbrev pub is_one_of : List ℕ → ℕ → Bool
is_one_of [] n = false
is_one_of (x ∷ xs) n = cond (x == n) true (is_one_of xs n)

contains_later : {A : Type 0} (y : A) (xs : List A) (x : A) → Contains xs x → Contains (y ∷ xs) x
contains_later y xs x has = (suc has.0, let h = has.1 in omega arith, has.2)

contains_first : {A : Type 0} (x : A) (xs : List A) → Contains (x ∷ xs) x
contains_first x xs = (zero, omega arith, refl)

pub found : (xs : List ℕ) (n : ℕ) → is_one_of xs n ≡ true → Contains xs n
found [] n is = absurd (cc)
found (x ∷ xs) n is = elim (cases_Bool (x == n)) [
  | inl t ↦ subst (λ k. Contains (x ∷ xs) k) (eqb-true x n t) (contains_first x xs)
  | inr f ↦ contains_later x xs n (found xs n (rw f at is))
]

pub finds : (xs : List ℕ) (n : ℕ) → Contains xs n → is_one_of xs n ≡ true
finds [] n has = absurd (omega (arith, has.1))
finds (x ∷ xs) n has = elim (Contains-cons_cases x xs n has) [
  | inl e ↦ rw (eq-eqb x n e) refl
  | inr later ↦ elim (cases_Bool (x == n)) [
    | inl t ↦ rw t refl
    | inr f ↦ rw f (finds xs n later)
  ]
]

-- a hop has a weight and leads to none of these
abbrev pub leaves : List ℕ → Hop → Bool
leaves sources hop = is_some hop.weight && not (is_one_of sources hop.to.0)

-- of some hops the least that passes, or none does
abbrev IsLeastOf : (Hop → Bool) → List Hop → Hop → Type 0
IsLeastOf test hops hop = Contains hops hop × (test hop ≡ true) × ((other : Hop) → Contains hops other → test other ≡ true → cost hop ≤ cost other)

abbrev NonePasses : (Hop → Bool) → List Hop → Type 0
NonePasses test hops = (hop : Hop) → Contains hops hop → test hop ≡ true → ⊥

least_more : (test : Hop → Bool) (x : Hop) (xs : List Hop) → NonePasses test xs ⊎ ((hop : Hop) × IsLeastOf test xs hop) → NonePasses test (x ∷ xs) ⊎ ((hop : Hop) × IsLeastOf test (x ∷ xs) hop)
least_more test x xs (inl none) = elim (cases_Bool (test x)) [
  | inl t ↦ inr (
    x,
    (
      contains_first x xs,
      t,
      λ other has passes. elim (Contains-cons_cases x xs other has) [
        | inl e ↦ subst (λ (h : Hop). cost x ≤ cost h) e (omega arith)
        | inr later ↦ absurd (none other later passes)
      ],
    ),
  )
  | inr f ↦ inl (λ hop has passes. elim (Contains-cons_cases x xs hop has) [
    | inl e ↦ let t : test x ≡ true = ap test e ∙ passes in let no : false ≡ true = sym f ∙ t in cc
    | inr later ↦ none hop later passes
  ])
]
least_more test x xs (inr some) = elim (cases_Bool (test x)) [
  | inl t ↦ elim (cases_lt (cost x) (cost some.0)) [
    | inl less ↦ inr (
      x,
      (
        contains_first x xs,
        t,
        λ other has passes. elim (Contains-cons_cases x xs other has) [
          | inl e ↦ subst (λ (h : Hop). cost x ≤ cost h) e (omega arith)
          | inr later ↦ let least = some.1.2 other later passes in omega (arith, least, less)
        ],
      ),
    )
    | inr more ↦ inr (
      some.0,
      (
        contains_later x xs some.0 some.1.0,
        some.1.1,
        λ other has passes. elim (Contains-cons_cases x xs other has) [
          | inl e ↦ subst (λ (h : Hop). cost some.0 ≤ cost h) e more
          | inr later ↦ some.1.2 other later passes
        ],
      ),
    )
  ]
  | inr f ↦ inr (
    some.0,
    (
      contains_later x xs some.0 some.1.0,
      some.1.1,
      λ other has passes. elim (Contains-cons_cases x xs other has) [
        | inl e ↦ absurd (let t : test x ≡ true = ap test e ∙ passes in let no : false ≡ true = sym f ∙ t in cc)
        | inr later ↦ some.1.2 other later passes
      ],
    ),
  )
]

least_of : (test : Hop → Bool) (hops : List Hop) → NonePasses test hops ⊎ ((hop : Hop) × IsLeastOf test hops hop)
least_of test [] = inl (λ hop has passes. omega (arith, has.1))
least_of test (x ∷ xs) = least_more test x xs (least_of test xs)

-- of the hops of some nodes the least that passes
record IsLeastFrom (network : Network) (test : Hop → Bool) (sources : List ℕ) (from : ℕ) (hop : Hop) : Type 0 where
  one_of : Contains sources from
  there : Contains (hops_from network from) hop
  passes : test hop ≡ true
  least : (node : ℕ) (other : Hop) → Contains sources node → Contains (hops_from network node) other → test other ≡ true → cost hop ≤ cost other

abbrev NoneLeaves : Network → (Hop → Bool) → List ℕ → Type 0
NoneLeaves network test sources = (node : ℕ) (hop : Hop) → Contains sources node → Contains (hops_from network node) hop → test hop ≡ true → ⊥

abbrev LeastOrNone : Network → (Hop → Bool) → List ℕ → Type 0
LeastOrNone network test sources = NoneLeaves network test sources ⊎ ((from : ℕ) × (hop : Hop) × IsLeastFrom network test sources from hop)

at_source : (network : Network) (x node : ℕ) (hop : Hop) → x ≡ node → Contains (hops_from network node) hop → Contains (hops_from network x) hop
at_source network x node hop e has = subst (λ n. Contains (hops_from network n) hop) (sym e) has

least_here : (network : Network) (test : Hop → Bool) (x : ℕ) (xs : List ℕ) → NonePasses test (hops_from network x) ⊎ ((hop : Hop) × IsLeastOf test (hops_from network x) hop) → LeastOrNone network test xs → LeastOrNone network test (x ∷ xs)
least_here network test x xs (inl none) (inl never) = inl (λ node hop one has passes. elim (Contains-cons_cases x xs node one) [
  | inl e ↦ none hop (at_source network x node hop e has) passes
  | inr later ↦ never node hop later has passes
])
least_here network test x xs (inl none) (inr some) = inr (
  some.0,
  some.1,
  record {
    one_of = contains_later x xs some.0 some.2.one_of;
    there = some.2.there;
    passes = some.2.passes;
    least = λ node other one has passes. elim (Contains-cons_cases x xs node one) [
      | inl e ↦ absurd (none other (at_source network x node other e has) passes)
      | inr later ↦ some.2.least node other later has passes
    ];
  },
)
least_here network test x xs (inr here) (inl never) = inr (
  x,
  here.0,
  record {
    one_of = contains_first x xs;
    there = here.1.0;
    passes = here.1.1;
    least = λ node other one has passes. elim (Contains-cons_cases x xs node one) [
      | inl e ↦ here.1.2 other (at_source network x node other e has) passes
      | inr later ↦ absurd (never node other later has passes)
    ];
  },
)
least_here network test x xs (inr here) (inr some) = elim (cases_lt (cost here.0) (cost some.1)) [
  | inl less ↦ inr (
    x,
    here.0,
    record {
      one_of = contains_first x xs;
      there = here.1.0;
      passes = here.1.1;
      least = λ node other one has passes. elim (Contains-cons_cases x xs node one) [
        | inl e ↦ here.1.2 other (at_source network x node other e has) passes
        | inr later ↦ let least = some.2.least node other later has passes in omega (arith, least, less)
      ];
    },
  )
  | inr more ↦ inr (
    some.0,
    some.1,
    record {
      one_of = contains_later x xs some.0 some.2.one_of;
      there = some.2.there;
      passes = some.2.passes;
      least = λ node other one has passes. elim (Contains-cons_cases x xs node one) [
        | inl e ↦ let least = here.1.2 other (at_source network x node other e has) passes in omega (arith, least, more)
        | inr later ↦ some.2.least node other later has passes
      ];
    },
  )
]

least_from : (network : Network) (test : Hop → Bool) (sources : List ℕ) → LeastOrNone network test sources
least_from network test [] = inl (λ node hop one has passes. omega (arith, one.1))
least_from network test (x ∷ xs) = least_here network test x xs (least_of test (hops_from network x)) (least_from network test xs)

some_is : {A : Type 0} (o : Option A) → IsSome o → is_some o ≡ true
some_is (Some x) some = refl
some_is None some = absurd cc

is_some_of : {A : Type 0} (o : Option A) → is_some o ≡ true → IsSome o
is_some_of (Some x) is = refl
is_some_of None is = absurd cc

both : (a b : Bool) → a ≡ true → b ≡ true → (a && b) ≡ true
both a b p q = rw (p, q) refl

apart : (a b : Bool) → (a && b) ≡ true → (a ≡ true) × (b ≡ true)
apart true b is = (refl, is)
apart false b is = absurd cc

not_is : (b : Bool) → not b ≡ true → b ≡ false
not_is false is = refl
not_is true is = absurd cc

-- a walk that leads out of some nodes weighs as much as the least hop that does
at_least : (network : Network) (sources : List ℕ) (least : ℕ) → ((node : ℕ) (hop : Hop) → Contains sources node → Contains (hops_from network node) hop → leaves sources hop ≡ true → least ≤ cost hop) →
    (hops : List Hop) (from to : ℕ) → IsWalk network from hops to → Contains sources from → is_one_of sources to ≡ false → least ≤ weight_of hops
at_least network sources least each [] from to walk inside outside = absurd (let e : true ≡ false = sym (finds sources from inside) ∙ ap (is_one_of sources) walk ∙ outside in cc)
at_least network sources least each (hop ∷ hops) from to walk inside outside = elim (cases_Bool (is_one_of sources hop.to.0)) [
  | inl t ↦ let rest = at_least network sources least each hops hop.to.0 to walk.2 (found sources hop.to.0 t) outside in omega (arith, rest)
  | inr f ↦
      let out : leaves sources hop ≡ true = both (is_some hop.weight) (not (is_one_of sources hop.to.0)) (some_is hop.weight walk.1) (rw f refl) in
      let here = each from hop inside walk.0 out in
      omega (arith, here)
]

-- it is a least walk to where it leads
near_at : (network : Network) (sources : List ℕ) (from : ℕ) (hop : Hop) → IsLeastFrom network (leaves sources) sources from hop → IsNearAt network sources hop.to.0 (cost hop)
near_at network sources from hop is =
    let parts = apart (is_some hop.weight) (not (is_one_of sources hop.to.0)) is.passes in
    let outside = not_is (is_one_of sources hop.to.0) parts.1 in
    let nearest : (other : ℕ) → Contains sources other → (others : List Hop) → IsWalk network other others hop.to.0 → cost hop ≤ weight_of others =
    λ other one others walk. at_least network sources (cost hop) is.least others other hop.to.0 walk one outside in
    record {
      source = from;
      one_of = is.one_of;
      walk = record {
        hops = hop ∷ [];
        is_least = record {
          walk = (is.there, is_some_of hop.weight parts.0, refl);
          least = λ others walk. let n = nearest from is.one_of others walk in omega (arith, n);
        };
        weight_is = omega arith;
      };
      nearest = nearest;
    }

-- a hop that leads out of the landmarks
pub record LeadsOut (network : Network) (sources : List ℕ) : Type 0 where
  pub from : ℕ
  pub one_of : Contains sources from
  pub hop : Hop
  pub there : Contains (hops_from network from) hop
  pub has_weight : IsSome hop.weight
  pub out : is_one_of sources hop.to.0 ≡ false

-- where each hop that has a weight has one above 0, a choice from which a hop leads out has all landmarks that were asked for
pub choice_is_full : (network : Network) (start count : ℕ) (landmarks : List ℕ) → IsChoice network start count landmarks →
    ((node : ℕ) (hop : Hop) → Contains (hops_from network node) hop → IsSome hop.weight → 0 < cost hop) → LeadsOut network landmarks → length landmarks ≡ count
choice_is_full network start count landmarks choice positive leads = elim choice.ends [
  | inl full ↦ full
  | inr near ↦ elim (least_from network (leaves landmarks) landmarks) [
    | inl never ↦ absurd (never leads.from leads.hop leads.one_of leads.there (both (is_some leads.hop.weight) (not (is_one_of landmarks leads.hop.to.0)) (some_is leads.hop.weight leads.has_weight) (rw leads.out refl)))
    | inr least ↦
        let hop = least.1 in
        let parts = apart (is_some hop.weight) (not (is_one_of landmarks hop.to.0)) least.2.passes in
        let none = near hop.to.0 (cost hop) (near_at network landmarks least.0 hop least.2) in
        let some = positive least.0 hop least.2.there (is_some_of hop.weight parts.0) in
        absurd (omega (arith, none, some))
  ]
]
