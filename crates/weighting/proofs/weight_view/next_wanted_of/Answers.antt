use Rattle.std.proofs.Common.{rules, ◌≡◌, ◌<◌, ℕ, Bool, true, List, ◌∷◌, map, length, sym, ap, ◌∙◌, arith}
use Rattle.std.proofs.lemmas.List.Elements.{All-rest}
use Rattle.gh_base.specs.declared.edges.DirEdge.{DirEdge}
use Rattle.gh_base.specs.Networks.{wanted_from}
use Rattle.gh_base.proofs.Wanted.{wanted_later}
use Rattle.base_graph.specs.Graphs.{Graph, head, edge_at}
use Rattle.weighting.specs.declared.weight_view.Side.{Side}
use Rattle.weighting.specs.Rules.{Rule}
use Rattle.weighting.specs.Roads.{hop_of}
use Rattle.weighting.specs.RoadFacts.{hop_to}
use Rattle.weighting.proofs.weight_view.next_wanted_of.Goals as goal

-- a directed edge that leads to an unwanted tower is passed over
edge_passed : (P : ℕ → Bool) (side : Side) (rule : Rule) (limits : DirEdge → ℕ) (graph : Graph) (edge : DirEdge) (edges rest : List DirEdge) → edges ≡ edge ∷ rest → P (head (edge_at graph.edges edge.edge.0) edge.reverse) ≡ true
    → wanted_from P (map (hop_of side rule limits graph) edges) ≡ wanted_from P (map (hop_of side rule limits graph) rest)
edge_passed P side rule limits graph edge edges rest e t =
    let weigh = hop_of side rule limits graph in
    wanted_later P (map weigh edges) (weigh edge) (map weigh rest) (ap (map weigh) e) (ap P (hop_to side rule limits graph edge) ∙ t)

pub returns-then-not-is_unwanted-clause-known : goal.returns-then-not-is_unwanted-clause-known
returns-then-not-is_unwanted-clause-known g c =
    All-rest (λ (by : DirEdge). by.edge.0 < length c.args.graph.now.lists.edges) c.in-Some.starting c.next.new.self c.loop-starting.around c.in-Some.ensures.some c.loop-starting.invariant.known

pub loop-starting-preserved : goal.loop-starting-preserved
loop-starting-preserved g c =
    let P = g.U.Unwanted.is_unwanted c.args.unwanted.now in
    let is : c.is_unwanted.result ≡ true = first_of (cc, search rules, grind arith) in
    let unwanted : P (head (edge_at c.args.graph.now.lists.edges c.in-Some.starting.edge.0) c.in-Some.starting.reverse) ≡ true = ap P (sym c.head_of.ensures) ∙ sym c.is_unwanted.ensures ∙ is in
    record {
      first = sym (edge_passed P c.args.side c.args.weighting.now (g.L.Limits.limit_of c.args.limits.now) c.args.graph.now.lists c.in-Some.starting c.loop-starting.around c.next.new.self c.in-Some.ensures.some unwanted) ∙ c.loop-starting.invariant.first;
      known = All-rest (λ (by : DirEdge). by.edge.0 < length c.args.graph.now.lists.edges) c.in-Some.starting c.next.new.self c.loop-starting.around c.in-Some.ensures.some c.loop-starting.invariant.known;
    }
