use Rattle.std.proofs.Common.{arith}
use Rattle.query_graph.proofs.Joining.{out_leads, between, walks_between}
use Rattle.query_graph.proofs.query_view.QueryView.new.Goals as goal

pub invariant_of-result : goal.invariant_of-result
invariant_of-result g c = record {
  count_is = c.node_count-count.ensures;
  few = omega (arith, c.node_count-count.ensures, c.requires.few);
  leaves = rw c.node_count-count.ensures (out_leads (g.V.RoadView.network c.args.base).nodes c.args.from c.requires.leaves);
  directs = rw c.node_count-count.ensures c.requires.directs;
}

pub returns-clause-walks : goal.returns-clause-walks
returns-clause-walks g c = λ hops.
    let base = g.V.RoadView.network c.args.base in
    let leads = g.met.V.RoadView.leads c.args.base in (
      between base c.args.to c.args.direct leads c.requires.reaches c.args.from c.requires.leaves c.requires.directs hops,
      walks_between base c.args.to c.args.direct leads c.requires.reaches c.args.from c.requires.leaves c.requires.directs hops,
    )
