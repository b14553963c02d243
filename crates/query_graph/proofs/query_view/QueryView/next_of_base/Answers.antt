use Rattle.std.proofs.Common.{arith}
use Rattle.query_graph.proofs.Wanting.{first_of_base, none_of_base}
use Rattle.query_graph.proofs.query_view.QueryView.next_of_base.Goals as goal

pub returns-then-self-clause-hop : goal.returns-then-self-clause-hop
returns-then-self-clause-hop g c =
    let v = c.args.self.now in
    first_of_base (g.U.Unwanted.is_unwanted c.args.unwanted.now) (g.V.RoadView.network v.base) v.from v.to v.direct v.node v.next v.passed (g.V.RoadView.left v.base)
    (omega (arith, v.count_is)) (g.V.RoadView.network c.next_wanted.new.self) c.next_wanted.ensures.network (g.V.RoadView.left c.next_wanted.new.self)
    c.next_wanted.result c.next_wanted.ensures.hop

pub returns-then-self-clause-none : goal.returns-then-self-clause-none
returns-then-self-clause-none g c =
    let v = c.args.self.now in
    none_of_base (g.U.Unwanted.is_unwanted c.args.unwanted.now) (g.V.RoadView.network v.base) v.from v.to v.direct v.node v.next v.passed (g.V.RoadView.left v.base)
    (omega (arith, v.count_is)) (g.V.RoadView.network c.next_wanted.new.self) c.next_wanted.ensures.network (g.V.RoadView.left c.next_wanted.new.self)
    c.next_wanted.result c.next_wanted.ensures.end c.next_wanted.ensures.ended
