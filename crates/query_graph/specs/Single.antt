-- One edge between two nodes: the least network that has both directions.
--
--     0 ---> 1      a forward weight, and none in reverse
use Rattle.std.specs.Prelude.{◌≡◌, ℕ, ◌==◌, if◌then◌else◌, Bool, true, false, Option, None, [], ◌∷◌}
use Rattle.std.proofs.Common.{refl, ap, inl, inr, arith}
use Rattle.std.proofs.lemmas.Bool.{cases_Bool}
use Rattle.gh_base.specs.declared.edges.Hop.{Hop}
use Rattle.gh_base.specs.Networks.{Network, LeadsToNodes}
use Rattle.query_graph.specs.Joined.{first_or_later}

-- a hop over the edge
abbrev pub over : Bool → ℕ → Option ℕ → Hop
over reverse to weight = record { to = record { 0 = to }; by = record { edge = record { 0 = 0 }; reverse = reverse }; weight = weight }

-- the hop of each node
abbrev pub hop_at : Option ℕ → ℕ → Hop
hop_at weight node = if node == 0 then over false 1 weight else over true 0 None

abbrev pub one_edge : Option ℕ → Network
one_edge weight = record { nodes = 2; hops = λ node. hop_at weight node ∷ [] }

pub one_edge_leads : (weight : Option ℕ) → LeadsToNodes (one_edge weight)
one_edge_leads weight node hop c = elim (first_or_later (hop_at weight node) [] hop c) [
  | inr none ↦ absurd (omega (arith, none.1))
  | inl same ↦
      let e : (hop_at weight node).to.0 ≡ hop.to.0 = ap (λ (h : Hop). h.to.0) same in
      elim (cases_Bool (node == 0)) [
        | inl t ↦ let one : (hop_at weight node).to.0 ≡ 1 = rw t refl in omega arith
        | inr f ↦ let none : (hop_at weight node).to.0 ≡ 0 = rw f refl in omega arith
      ]
]
