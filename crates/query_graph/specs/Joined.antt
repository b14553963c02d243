-- The network of a base, a start and a target.
use Rattle.std.specs.Prelude.{◌≡◌, ℕ, ◌+◌, ◌<◌, ◌==◌, ◌⊎◌, nat_lt, if◌then◌else◌, Option, List, [], ◌∷◌, ◌++◌, drop, All, Contains}
use Rattle.std.proofs.Common.{sym, ap, inl, inr, zero, suc, arith}
use Rattle.std.proofs.lemmas.Bool.{cases_Bool}
use Rattle.std.proofs.lemmas.List.Elements.{All-contains, Contains-append_cases}
use Rattle.gh_base.specs.declared.edges.Hop.{Hop}
use Rattle.gh_base.specs.declared.edges.Arrival.{Arrival}
use Rattle.gh_base.specs.Networks.{Network, LeadsToNodes}
use Rattle.query_graph.specs.declared.ends.Leave.{Leave}
use Rattle.query_graph.specs.declared.ends.Reach.{Reach}
use Rattle.query_graph.specs.Ends.{given, ways_out, ways_in, AreDirect, hop_of}

-- the arrivals at a node, as hops to the target
abbrev pub hops_into : ℕ → ℕ → List Arrival → List Hop
hops_into target node [] = []
hops_into target node (arrival ∷ arrivals) = if arrival.at.0 == node then hop_of target arrival ∷ hops_into target node arrivals else hops_into target node arrivals

-- the hops of a base node stay, and the arrivals there come after them; the first node past the base has those that leave the start, the second none
abbrev pub joined_hops : Network → List Hop → List Arrival → ℕ → List Hop
joined_hops base leaving arrivals node =
    if nat_lt node base.nodes then base.hops node ++ hops_into (base.nodes + 1) node arrivals
    else if node == base.nodes then leaving else []

abbrev pub with_ends : Network → List Hop → List Arrival → Network
with_ends base leaving arrivals = record { nodes = base.nodes + 2; hops = joined_hops base leaving arrivals }

-- the pieces out of the start and then the direct ones leave it; the pieces into the target stand at nodes of the base
abbrev pub joined : Network → Leave → Reach → List (Option Hop) → Network
joined base from to direct = with_ends base (ways_out from ++ given direct) (ways_in to)

-- what is left of a node's hops, after so many arrivals or pieces out, and so many direct ones
abbrev pub joined_left : Network → List Hop → Leave → Reach → List (Option Hop) → ℕ → ℕ → ℕ → List Hop
joined_left base left from to direct node next passed =
    if nat_lt node base.nodes then left ++ hops_into (base.nodes + 1) node (drop next (ways_in to))
    else if node == base.nodes then drop next (ways_out from) ++ given (drop passed direct) else []

pub first_or_later : {A : Type 0} (y : A) (xs : List A) (x : A) → Contains (y ∷ xs) x → (y ≡ x) ⊎ Contains xs x
first_or_later y xs x (zero, l, e) = inl e
first_or_later y xs x (suc k, l, e) = inr (k, omega arith, e)

pub into_target : (target node : ℕ) (arrivals : List Arrival) (hop : Hop) → Contains (hops_into target node arrivals) hop → hop.to.0 ≡ target
into_target target node [] hop c = absurd (omega (arith, c.1))
into_target target node (arrival ∷ arrivals) hop c = elim (cases_Bool (arrival.at.0 == node)) [
  | inl t ↦ elim (first_or_later (hop_of target arrival) (hops_into target node arrivals) hop (rw t at c)) [
    | inl e ↦ ap (λ (h : Hop). h.to.0) (sym e)
    | inr l ↦ into_target target node arrivals hop l
  ]
  | inr f ↦ into_target target node arrivals hop (rw f at c)
]

pub joined_leads : (base : Network) (from : Leave) (to : Reach) (direct : List (Option Hop)) (count : ℕ) → count ≡ base.nodes → All (λ hop. hop.to.0 < count) (ways_out from) → AreDirect count from to direct → LeadsToNodes base → LeadsToNodes (joined base from to direct)
joined_leads base from to direct count same l d r node hop c = elim (cases_Bool (nat_lt node base.nodes)) [
  | inl t ↦ elim (Contains-append_cases (base.hops node) (hops_into (base.nodes + 1) node (ways_in to)) hop (rw t at c)) [
    | inl h ↦ let n = r node hop h in omega arith
    | inr h ↦ let n = into_target (base.nodes + 1) node (ways_in to) hop h in omega arith
  ]
  | inr f ↦ elim (cases_Bool (node == base.nodes)) [
    | inl t ↦ elim (Contains-append_cases (ways_out from) (given direct) hop (rw (f, t) at c)) [
      | inl h ↦ let n = All-contains (λ (hop : Hop). hop.to.0 < count) (ways_out from) hop l h in omega arith
      | inr h ↦ let n = (d hop h).0 in omega arith
    ]
    | inr g ↦ absurd (let h = rw (f, g) at c in omega (arith, h.1))
  ]
]
