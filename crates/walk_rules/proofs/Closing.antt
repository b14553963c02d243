-- The nodes that are reached, and those with no bound, are a closed set where no walk leads to the target.
use Rattle.std.proofs.Common.{◌≡◌, ℕ, ◌<◌, ◌≤◌, ◌⊎◌, Bool, true, false, cond, nat_lt, Option, Some, None, List, [], ◌∷◌, ◌++◌, IsSome, Contains, refl, sym, ap, ◌∙◌, inl, inr}
use Rattle.std.proofs.lemmas.Bool.{cases_lt, cases_Bool, lt-ltb, le-ltb}
use Rattle.gh_base.specs.declared.edges.Hop.{Hop}
use Rattle.gh_base.specs.Networks.{Network, LeadsToNodes}
use Rattle.walk_rules.specs.Walks.{hops_from, IsWalk, NoWalk}
use Rattle.walk_rules.specs.Potentials.{FallsAlong}
use Rattle.walk_rules.specs.Evidence.{is_out, IsShownNone, TellsLeast}
use Rattle.walk_rules.proofs.Options.{some_or_none, some_of}
use Rattle.walk_rules.proofs.Walking.{walk_push}

-- a node is inside where it has no bound, or its weight is told
abbrev is_inside : Option ℕ → Option ℕ → Bool
is_inside None told = true
is_inside (Some left) None = false
is_inside (Some left) (Some weight) = true

inside_cases : (bound told : Option ℕ) → is_inside bound told ≡ true → (bound ≡ None) ⊎ ((weight : ℕ) × (told ≡ Some weight))
inside_cases None told e = inl refl
inside_cases (Some left) None e = absurd (cc)
inside_cases (Some left) (Some weight) e = inr (weight, refl)

abbrev told_set : Network → (ℕ → Option ℕ) → (ℕ → Option ℕ) → ℕ → Bool
told_set network bound told node = cond {A = Bool} (nat_lt node network.nodes) (is_inside (bound node) (told node)) false

-- a hop leads out only where its tail is inside and its head isn't
no_way_out : (tail : Bool) (weight : Option ℕ) (head : Bool) → (tail ≡ true → IsSome weight → head ≡ true) → is_out tail weight head ≡ false
no_way_out false weight head h = refl
no_way_out true None head h = refl
no_way_out true (Some w) true h = refl
no_way_out true (Some w) false h = absurd (let e = h refl refl in cc)

module _ {network : Network} {bound told : ℕ → Option ℕ} {start target : ℕ} (leads : LeadsToNodes network) (s : start < network.nodes) (t : target < network.nodes) (falls : FallsAlong network bound) (bounded : IsSome (bound target)) (tells : TellsLeast network bound start target told) (no : NoWalk network start target) where
  set_below : (node : ℕ) → node < network.nodes → told_set network bound told node ≡ is_inside (bound node) (told node)
  set_below node n = ap (λ b. cond {A = Bool} b (is_inside (bound node) (told node)) false) (lt-ltb node network.nodes n)

  set_past : (node : ℕ) → network.nodes ≤ node → told_set network bound told node ≡ false
  set_past node far = ap (λ b. cond {A = Bool} b (is_inside (bound node) (told node)) false) (le-ltb node network.nodes far)

  -- what is inside has no bound, or a walk leads there
  from_inside : (node : ℕ) → node < network.nodes → told_set network bound told node ≡ true → (bound node ≡ None) ⊎ ((hops : List Hop) × IsWalk network start hops node)
  from_inside node n e = elim (inside_cases (bound node) (told node) (sym (set_below node n) ∙ e)) [
    | inl b ↦ inl b
    | inr w ↦ let l = tells.least node w.0 w.1 in inr (l.hops, l.is_least.walk)
  ]

  no_bound_inside : (node : ℕ) → node < network.nodes → bound node ≡ None → told_set network bound told node ≡ true
  no_bound_inside node n b = set_below node n ∙ ap (λ o. is_inside o (told node)) b

  walk_inside : (node : ℕ) → node < network.nodes → (hops : List Hop) → IsWalk network start hops node → told_set network bound told node ≡ true
  walk_inside node n hops walk = elim (some_or_none (bound node)) [
    | inr none ↦ no_bound_inside node n none
    | inl b ↦ elim (some_or_none (told node)) [
      | inl w ↦ set_below node n ∙ ap (λ o. is_inside o (told node)) b.1 ∙ ap (λ o. is_inside (Some b.0) o) w.1
      | inr none ↦ absurd (let r = tells.rest node b.0 hops none b.1 walk in no r.0 r.1)
    ]
  ]

  over_hop : (node : ℕ) (hop : Hop) → node < network.nodes → Contains (hops_from network node) hop → told_set network bound told node ≡ true → IsSome hop.weight → told_set network bound told hop.to.0 ≡ true
  over_hop node hop n c e weighs =
      let head : hop.to.0 < network.nodes = leads node hop c in
      elim (from_inside node n e) [
        | inr walk ↦ walk_inside hop.to.0 head (walk.0 ++ hop ∷ []) (walk_push network walk.0 hop start node hop.to.0 walk.1 c weighs refl).0
        | inl none ↦ elim (some_or_none (bound hop.to.0)) [
          | inr b ↦ no_bound_inside hop.to.0 head b
          | inl b ↦ absurd (let x = falls node hop c weighs b.0 b.1 in let y = x.1 in cc)
        ]
      ]

  pub told_shows_none : IsShownNone network bound start target
  told_shows_none = record {
    has = told_set network bound told;
    each = λ node n. (
      from_inside node n,
      λ which. elim which [
        | inl b ↦ no_bound_inside node n b
        | inr walk ↦ walk_inside node n walk.0 walk.1
      ],
    );
    closed = record {
      at_start = walk_inside start s [] refl;
      at_target = elim (cases_Bool (told_set network bound told target)) [
        | inr e ↦ e
        | inl e ↦ absurd (elim (from_inside target t e) [
          | inl b ↦ let x = some_of (bound target) bounded in let y = x.1 in cc
          | inr walk ↦ no walk.0 walk.1
        ])
      ];
      along = λ node hop c. no_way_out (told_set network bound told node) hop.weight (told_set network bound told hop.to.0) (elim (cases_lt node network.nodes) [
        | inl n ↦ over_hop node hop n c
        | inr far ↦ λ e weighs. absurd (let x = set_past node far in cc)
      ]);
    };
  }
