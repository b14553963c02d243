-- The row of five in numbers.
use Rattle.std.proofs.Common.{◌≡◌, ◌≢◌, ℕ, ◌+◌, ◌<◌, ◌≤◌, Bool, true, false, Option, Some, List, [], ◌∷◌, Contains, zero, suc, refl, sym, ap, ◌∙◌, inl, inr, arith}
use Rattle.std.specs.Prelude.{slice_index_or}
use Rattle.gh_base.specs.declared.edges.Hop.{Hop}
use Rattle.walk_rules.specs.Walks.{hops_from, IsWalk, weight_of, IsLeast}
use Rattle.walk_rules.specs.Potentials.{flat}
use Rattle.walk_rules.specs.Distances.{label_at}
use Rattle.walk_rules.specs.Starts.{count_below, IsCandidate, StartsWithin}
use Rattle.walk_rules.specs.Evidence.{violates}
use Rattle.walk_rules.specs.RowOfFive.{hop_by, row_of_five}
use Rattle.walk_rules.proofs.Options.{Contains-cons_cases}
use Rattle.walk_rules.proofs.Counting.{count_below-more}
use Rattle.walk_rules.proofs.Showing.{along_labels, evidence_least}

-- the distances from node 2
abbrev distances : ℕ → Option ℕ
distances node = label_at (Some 133434 ∷ Some 66717 ∷ Some 0 ∷ Some 66717 ∷ Some 133434 ∷ []) node

-- a test that fails at each element of a short list
one : (test : Hop → Bool) (a : Hop) → test a ≡ false → (hop : Hop) → Contains (a ∷ []) hop → test hop ≡ false
one test a p hop c = elim (Contains-cons_cases a [] hop c) [
  | inl e ↦ ap test (sym e) ∙ p
  | inr r ↦ absurd (omega (arith, r.1))
]

two : (test : Hop → Bool) (a b : Hop) → test a ≡ false → test b ≡ false → (hop : Hop) → Contains (a ∷ b ∷ []) hop → test hop ≡ false
two test a b p q hop c = elim (Contains-cons_cases a (b ∷ []) hop c) [
  | inl e ↦ ap test (sym e) ∙ p
  | inr r ↦ one test b q hop r
]

none_violated : (node : ℕ) (hop : Hop) → Contains (hops_from row_of_five node) hop → violates distances node hop ≡ false
none_violated zero hop c = one (violates distances 0) (hop_by 0 false 1) refl hop c
none_violated (suc zero) hop c = two (violates distances 1) (hop_by 1 false 2) (hop_by 0 true 0) refl refl hop c
none_violated (suc (suc zero)) hop c = two (violates distances 2) (hop_by 2 false 3) (hop_by 1 true 1) refl refl hop c
none_violated (suc (suc (suc zero))) hop c = two (violates distances 3) (hop_by 3 false 4) (hop_by 2 true 2) refl refl hop c
none_violated (suc (suc (suc (suc zero)))) hop c = one (violates distances 4) (hop_by 3 true 3) refl hop c
none_violated (suc (suc (suc (suc (suc node))))) hop c = absurd (omega (arith, c.1))

abbrev onward : List Hop
onward = hop_by 2 false 3 ∷ hop_by 3 false 4 ∷ []

pub onward_walk : IsWalk row_of_five 2 onward 4
onward_walk = ((0, omega arith, refl), refl, ((0, omega arith, refl), refl, refl))

pub onward_least : IsLeast row_of_five 2 onward 4
onward_least = record {
  walk = onward_walk;
  least = evidence_least row_of_five distances 2 4 133434 (record { at_start = refl; at_target = refl; along = none_violated });
}

-- the nodes that a search must start at, and those that it may
abbrev inner : ℕ → Bool
inner node = slice_index_or (false ∷ true ∷ true ∷ true ∷ false ∷ []) node false

abbrev outer : ℕ → Bool
outer node = slice_index_or (true ∷ true ∷ true ∷ true ∷ false ∷ []) node false

candidate : (IsSo : ℕ → Type 0) (node : ℕ) → node ≢ 4 → (hops : List Hop) → IsWalk row_of_five 2 hops node → IsSo (weight_of hops + 0) → IsCandidate row_of_five flat 2 4 IsSo node
candidate IsSo node ne hops walk sum = record { other = ne; hops = hops; walk = walk; left = 0; bound_is = refl; sum = sum }

-- each candidate is no nearer than its distance
far : (IsSo : ℕ → Type 0) (node : ℕ) (c : IsCandidate row_of_five flat 2 4 IsSo node) → (y : ℕ) × (distances node ≡ Some y) × (y ≤ weight_of c.hops + c.left)
far IsSo node c = let y = along_labels row_of_five distances none_violated c.hops 2 node 0 c.walk refl in (y.0, y.1, omega (arith, y.2))

inner_only : (IsSo : ℕ → Type 0) → IsSo 66717 → IsSo 0 → (node : ℕ) → inner node ≡ true → IsCandidate row_of_five flat 2 4 IsSo node
inner_only IsSo m z zero p = absurd (cc)
inner_only IsSo m z (suc zero) p = candidate IsSo 1 (λ e. omega (arith, e)) (hop_by 1 true 1 ∷ []) ((1, omega arith, refl), refl, refl) m
inner_only IsSo m z (suc (suc zero)) p = candidate IsSo 2 (λ e. omega (arith, e)) [] refl z
inner_only IsSo m z (suc (suc (suc zero))) p = candidate IsSo 3 (λ e. omega (arith, e)) (hop_by 2 false 3 ∷ []) ((0, omega arith, refl), refl, refl) m
inner_only IsSo m z (suc (suc (suc (suc zero)))) p = absurd (cc)
inner_only IsSo m z (suc (suc (suc (suc (suc node))))) p = absurd (cc)

outer_only : (IsSo : ℕ → Type 0) → IsSo 133434 → IsSo 66717 → IsSo 0 → (node : ℕ) → outer node ≡ true → IsCandidate row_of_five flat 2 4 IsSo node
outer_only IsSo d m z zero p = candidate IsSo 0 (λ e. omega (arith, e)) (hop_by 1 true 1 ∷ hop_by 0 true 0 ∷ []) ((1, omega arith, refl), refl, ((1, omega arith, refl), refl, refl)) d
outer_only IsSo d m z (suc zero) p = inner_only IsSo m z 1 refl
outer_only IsSo d m z (suc (suc zero)) p = inner_only IsSo m z 2 refl
outer_only IsSo d m z (suc (suc (suc zero))) p = inner_only IsSo m z 3 refl
outer_only IsSo d m z (suc (suc (suc (suc zero)))) p = absurd (cc)
outer_only IsSo d m z (suc (suc (suc (suc (suc node))))) p = absurd (cc)

outer_each : (IsSo : ℕ → Type 0) (node : ℕ) → IsCandidate row_of_five flat 2 4 IsSo node → outer node ≡ true
outer_each IsSo zero c = refl
outer_each IsSo (suc zero) c = refl
outer_each IsSo (suc (suc zero)) c = refl
outer_each IsSo (suc (suc (suc zero))) c = refl
outer_each IsSo (suc (suc (suc (suc zero)))) c = absurd (c.other refl)
outer_each IsSo (suc (suc (suc (suc (suc node))))) c = absurd (let y = far IsSo (suc (suc (suc (suc (suc node))))) c in let e = y.1 in cc)

inner_each : (node : ℕ) → IsCandidate row_of_five flat 2 4 (λ sum. sum < 133434) node → inner node ≡ true
inner_each zero c = absurd (let y = far (λ sum. sum < 133434) 0 c in let e = y.1 in let same : 133434 ≡ y.0 = cc in omega (arith, y.2, c.sum))
inner_each (suc zero) c = refl
inner_each (suc (suc zero)) c = refl
inner_each (suc (suc (suc zero))) c = refl
inner_each (suc (suc (suc (suc zero)))) c = absurd (c.other refl)
inner_each (suc (suc (suc (suc (suc node))))) c = absurd (let e = outer_each (λ sum. sum < 133434) (suc (suc (suc (suc (suc node))))) c in cc)

pub starts_three : StartsWithin row_of_five flat 2 4 133434 3
starts_three = record { passes = inner; count = refl; only = inner_only (λ sum. sum ≤ 133434) (omega arith) (omega arith); each = inner_each }

pub starts_four : StartsWithin row_of_five flat 2 4 133434 4
starts_four = record { passes = outer; count = refl; only = outer_only (λ sum. sum ≤ 133434) (omega arith) (omega arith) (omega arith); each = outer_each (λ sum. sum < 133434) }

pub starts_not_two : StartsWithin row_of_five flat 2 4 133434 2 → ⊥
starts_not_two s =
    let more : 3 ≤ count_below s.passes 5 = count_below-more inner s.passes 5 (λ i p. s.each i (inner_only (λ sum. sum < 133434) (omega arith) (omega arith) i p)) in
    omega (arith, s.count)

pub is_violated_there : (label : ℕ → Option ℕ) → label 3 ≡ Some 66716 → label 4 ≡ Some 133434 → violates label 3 (hop_by 3 false 4) ≡ true
is_violated_there label a b = rw (a, b) refl

pub is_kept_there : (label : ℕ → Option ℕ) → label 3 ≡ Some 66717 → label 4 ≡ Some 133434 → violates label 3 (hop_by 3 false 4) ≡ false
is_kept_there label a b = rw (a, b) refl
