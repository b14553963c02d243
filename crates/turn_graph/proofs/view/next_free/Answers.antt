use Rattle.std.proofs.Common.{◌≡◌, ◌<◌, not, Bool, false, length, ◌∙◌, arith}
use Rattle.std.proofs.lemmas.Grind.{common_steps}
use Rattle.std.proofs.lemmas.List.Elements.{All-rest}
use Rattle.gh_base.specs.declared.edges.Hop.{Hop}
use Rattle.turn_graph.specs.Tables.{is_banned}
use Rattle.turn_graph.proofs.Known.{IsEdgeOf, first_known, passed_over}
use Rattle.turn_graph.proofs.view.next_free.Goals as goal

pub bans-requires-clause-to : goal.bans-requires-clause-to
bans-requires-clause-to g c =
    let graph = c.args.graph.now.lists in
    let l : c.in-Some.hop.by.edge.0 < length graph.edges =
    first_known (IsEdgeOf graph) c.in-Some.hop (g.V.RoadView.left c.next_hop.new.self) (g.V.RoadView.left c.loop-hop.base) c.in-Some.ensures.hop c.loop-hop.invariant.known in
    omega (arith, c.requires.suits.ways)

pub returns-then-not-bans-clause-over : goal.returns-then-not-bans-clause-over
returns-then-not-bans-clause-over g c =
    first_known (IsEdgeOf c.args.graph.now.lists) c.in-Some.hop (g.V.RoadView.left c.next_hop.new.self) (g.V.RoadView.left c.loop-hop.base) c.in-Some.ensures.hop c.loop-hop.invariant.known

pub returns-then-not-bans-clause-known : goal.returns-then-not-bans-clause-known
returns-then-not-bans-clause-known g c =
    All-rest (IsEdgeOf c.args.graph.now.lists) c.in-Some.hop (g.V.RoadView.left c.next_hop.new.self) (g.V.RoadView.left c.loop-hop.base) c.in-Some.ensures.hop c.loop-hop.invariant.known

pub loop-hop-preserved : goal.loop-hop-preserved
loop-hop-preserved g c =
    let graph = c.args.graph.now.lists in
    let table = c.args.turns.now in
    let free : Hop → Bool = λ (hop : Hop). not (is_banned graph table c.args.by hop.by) in
    record {
      rest =
          let there : c.bans.result ≡ is_banned graph table c.args.by c.in-Some.hop.by = rw (← c.end_of-tower.ensures) c.bans.ensures in
          let out : free c.in-Some.hop ≡ false = rw (← there) (grind (arith, common_steps)) in
          passed_over free c.in-Some.hop (g.V.RoadView.left c.next_hop.new.self) (g.V.RoadView.left c.loop-hop.base) (g.V.RoadView.left c.args.base.now) c.in-Some.ensures.hop out c.loop-hop.invariant.rest;
      known = All-rest (IsEdgeOf graph) c.in-Some.hop (g.V.RoadView.left c.next_hop.new.self) (g.V.RoadView.left c.loop-hop.base) c.in-Some.ensures.hop c.loop-hop.invariant.known;
      starts = c.in-Some.ensures.starts ∙ c.loop-hop.invariant.starts;
      network = c.in-Some.ensures.network ∙ c.loop-hop.invariant.network;
    }
