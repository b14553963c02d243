-- A stand-in for the law that after a history there is one list of limits.
use Rattle.std.proofs.Common.{◌≡◌, ℕ, ◌/◌, ◌%◌, true, false, List, sym, subst, ◌∙◌, get_or, inl, inr, arith}
use Rattle.std.proofs.lemmas.Bool.{cases_lt}
use Rattle.std.proofs.lemmas.List.{ext_get_or}
use Rattle.gh_base.specs.declared.edges.DirEdge.{DirEdge}
use Rattle.base_graph.specs.Graphs.{Graph}
use Rattle.traffic_core.specs.declared.entry.Entry.{Entry}
use Rattle.traffic_core.specs.History.{index_of, AreLimitsAfter}

directed : (i : ℕ) → (by : DirEdge) × (index_of by ≡ i)
directed i = elim (cases_lt (i % 2) 1) [
  | inl forward ↦ (record { edge = record { 0 = i / 2 }; reverse = false }, omega arith)
  | inr reverse ↦ (record { edge = record { 0 = i / 2 }; reverse = true }, omega arith)
]

pub one_limit_list : (graph : Graph) (h : List Entry) (limits other : List ℕ) → AreLimitsAfter graph h limits → AreLimitsAfter graph h other → limits ≡ other
one_limit_list graph h limits other are more = ext_get_or 0 limits other (are.long ∙ sym more.long) (λ i within.
    let by = directed i in
    subst (λ (n : ℕ). get_or limits n 0 ≡ get_or other n 0) by.1 (are.each by.0 ∙ sym (more.each by.0)))
