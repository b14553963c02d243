-- States and their numbers.
use Rattle.std.proofs.Common.{◌≡◌, ℕ, ◌+◌, ◌*◌, ◌/◌, ◌%◌, ◌<◌, ◌==◌, cond, Bool, refl, sym, ap, ◌∙◌, inl, inr, arith}
use Rattle.std.proofs.lemmas.Bool.{cases_Bool, lt-ltb, le-ltb, eq-eqb, ne_eqb}
use Rattle.gh_base.specs.declared.edges.DirEdge.{DirEdge}
use Rattle.turn_graph.specs.declared.state.State.TheVariants.{Start, Passed, Target}
use Rattle.turn_graph.specs.States.{number_of, edge_by, state_by}
use Rattle.turn_graph.specs.Leading.{number_below}

-- a directed edge by number
named : (edge : ℕ) (reverse : Bool) → DirEdge
named edge reverse = record { edge = record { 0 = edge }; reverse = reverse }

same : (a b : ℕ) (x y : Bool) → a ≡ b → x ≡ y → named a x ≡ named b y
unfolding named
same a b x y e f = cc

-- the directed edge of its number is itself
pub edge_by_number : (by : DirEdge) → edge_by (number_of by) ≡ by
unfolding named
edge_by_number by = elim (cases_Bool by.reverse) [
  | inl t ↦
      let n : number_of by ≡ 2 * by.edge.0 + 1 = ap (λ (b : Bool). 2 * by.edge.0 + cond {A = ℕ} b 1 0) t in
      let half : number_of by / 2 ≡ by.edge.0 = omega arith in
      let odd : number_of by % 2 ≡ 1 = omega arith in
      let r : (number_of by % 2 == 1) ≡ by.reverse = eq-eqb (number_of by % 2) 1 odd ∙ sym t in
      same (number_of by / 2) by.edge.0 (number_of by % 2 == 1) by.reverse half r
  | inr f ↦
      let m : number_of by ≡ 2 * by.edge.0 + 0 = ap (λ (b : Bool). 2 * by.edge.0 + cond {A = ℕ} b 1 0) f in
      let n : number_of by ≡ 2 * by.edge.0 = omega arith in
      let half : number_of by / 2 ≡ by.edge.0 = omega arith in
      let even : number_of by % 2 ≡ 0 = omega arith in
      let r : (number_of by % 2 == 1) ≡ by.reverse = ne_eqb (number_of by % 2) 1 (λ e. omega arith) ∙ sym f in
      same (number_of by / 2) by.edge.0 (number_of by % 2 == 1) by.reverse half r
]

module _ (edges : ℕ) where
  pub state_passed : (by : DirEdge) → by.edge.0 < edges → state_by edges (number_of by) ≡ Passed by
  state_passed by l =
      let t = lt-ltb (number_of by) (2 * edges) (number_below edges by l) in
      rw t (ap (λ (d : DirEdge). Passed d) (edge_by_number by))

  pub state_start : state_by edges (2 * edges) ≡ Start
  state_start = let f = le-ltb (2 * edges) (2 * edges) (omega arith) in let t = eq-eqb (2 * edges) (2 * edges) refl in rw (f, t) refl

  pub state_target : state_by edges (2 * edges + 1) ≡ Target
  state_target =
      let f = le-ltb (2 * edges + 1) (2 * edges) (omega arith) in
      let n = ne_eqb (2 * edges + 1) (2 * edges) (λ e. omega arith) in
      rw (f, n) refl
