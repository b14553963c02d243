-- What the first hop at which a test fails says, and what it says that there is none.
use Rattle.std.proofs.Common.{◌≡◌, ℕ, ◌<◌, ◌≤◌, Bool, false, Some, List, [], ◌∷◌, ◌++◌, Contains, Result, Ok, Err, refl, sym, subst, ap, ◌∙◌, ◌+◌, append_assoc, suc, inl, inr, arith}
use Rattle.std.specs.Prelude.{⊤, IfErr}
use Rattle.std.proofs.lemmas.Bool.{cases_lt, cases_eq}
use Rattle.std.proofs.lemmas.List.{append-nil}
use Rattle.std.proofs.lemmas.List.Elements.{Contains-append_cases}
use Rattle.walk_rules.proofs.Options.{Contains-cons_cases}
use Rattle.gh_base.specs.declared.edges.Hop.{Hop}
use Rattle.gh_base.specs.Networks.{Network}
use Rattle.walk_rules.specs.Walks.{hops_from}
use Rattle.label_certificate.specs.declared.refuted.Refuted.{Refuted}
use Rattle.label_certificate.specs.declared.refuted.Refuted.TheVariants.{Ends, Violated}
use Rattle.label_certificate.specs.Refuting.{IsReason}

pub contains_middle : {A : Type 0} (earlier later : List A) (x : A) → Contains (earlier ++ x ∷ later) x
contains_middle [] later x = (0, omega arith, refl)
contains_middle (y ∷ earlier) later x = let c = contains_middle earlier later x in (suc c.0, omega (arith, c.1), c.2)

-- the test fails at no hop of any node
abbrev pub FailsNowhere : Network → (ℕ → Hop → Bool) → Type 0
FailsNowhere network fails = (node : ℕ) (hop : Hop) → Contains (hops_from network node) hop → fails node hop ≡ false

-- one that fails at no hop past the last node fails nowhere if it fails at no node's
pub fails_nowhere : (network : Network) (fails : ℕ → Hop → Bool) → ((node : ℕ) (hop : Hop) → network.nodes ≤ node → fails node hop ≡ false) → ((node : ℕ) (hop : Hop) → node < network.nodes → Contains (hops_from network node) hop → fails node hop ≡ false) → FailsNowhere network fails
fails_nowhere network fails past each node hop c = elim (cases_lt node network.nodes) [
  | inl l ↦ each node hop l c
  | inr g ↦ past node hop g
]

-- where there is a first hop at which it fails, it doesn't fail nowhere
pub fails_somewhere : (network : Network) (fails : ℕ → Hop → Bool) (why : Refuted) → IsReason network fails ⊤ why → FailsNowhere network fails → ⊥
fails_somewhere network fails Ends r f = r tt
fails_somewhere network fails (Violated edge tail head weight) r f =
    let hop : Hop = record { to = head; by = edge; weight = Some weight } in
    let on : Contains (hops_from network tail.0) hop = subst (λ xs. Contains xs hop) (sym r.1.in_order) (contains_middle r.1.earlier r.1.later hop) in
    let a = f tail.0 hop on in
    let b = r.1.at in
    cc

-- the same reason, where the ends are right
pub with_ends : (network : Network) (fails : ℕ → Hop → Bool) (AreRight : Type 0) → AreRight → (result : Result (Unit {0}) Refuted) → IfErr result (λ why. IsReason network fails ⊤ why) → IfErr result (λ why. IsReason network fails AreRight why)
with_ends network fails AreRight a (Ok u) r = r
with_ends network fails AreRight a (Err Ends) r = absurd (r tt)
with_ends network fails AreRight a (Err (Violated edge tail head weight)) r = (a, r.1)

-- one more hop was given, at which the test doesn't fail
pub one_more_fine : {row left : List Hop} (test : Hop → Bool) → (hops : List Hop) × (row ≡ hops ++ left) × ((hop : Hop) → Contains hops hop → test hop ≡ false) → (rest : List Hop) (hop : Hop) → left ≡ hop ∷ rest → test hop ≡ false → (hops : List Hop) × (row ≡ hops ++ rest) × ((hop : Hop) → Contains hops hop → test hop ≡ false)
one_more_fine test e rest hop l fine = (
  e.0 ++ hop ∷ [],
  e.1 ∙ ap (λ xs. e.0 ++ xs) l ∙ sym (append_assoc e.0 (hop ∷ []) rest),
  λ other c. elim (Contains-append_cases e.0 (hop ∷ []) other c) [
    | inl h ↦ e.2 other h
    | inr h ↦ elim (Contains-cons_cases hop [] other h) [
      | inl same ↦ ap test (sym same) ∙ fine
      | inr none ↦ absurd (omega (arith, none.1))
    ]
  ],
)

-- all hops of a node were given
pub all_given : (network : Network) (fails : ℕ → Hop → Bool) (tail : ℕ) (left : List Hop) → ((node : ℕ) (hop : Hop) → node < tail → Contains (hops_from network node) hop → fails node hop ≡ false) → (hops : List Hop) × (hops_from network tail ≡ hops ++ left) × ((hop : Hop) → Contains hops hop → fails tail hop ≡ false) → left ≡ [] → (node : ℕ) (hop : Hop) → node < tail + 1 → Contains (hops_from network node) hop → fails node hop ≡ false
all_given network fails tail left before e none node hop l c = elim (cases_eq node tail) [
  | inl same ↦
      let row : hops_from network node ≡ e.0 = ap (hops_from network) same ∙ e.1 ∙ ap (λ xs. e.0 ++ xs) none ∙ append-nil e.0 in
      ap (λ n. fails n hop) same ∙ e.2 hop (subst (λ xs. Contains xs hop) row c)
  | inr ne ↦ before node hop (omega arith) c
]
