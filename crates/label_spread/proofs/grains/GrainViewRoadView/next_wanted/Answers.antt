use Rattle.label_spread.proofs.Grained.{grained_first, grained_none}
use Rattle.label_spread.proofs.grains.GrainViewRoadView.next_wanted.Goals as goal

pub returns-in-Some-clause-hop : goal.returns-in-Some-clause-hop
returns-in-Some-clause-hop g c =
    rw c.in_grains_of.ensures (grained_first (g.U.Unwanted.is_unwanted c.args.unwanted.now) c.args.self.now.grain (g.V.RoadView.left c.args.self.now.base) c.in-Some.hop (g.V.RoadView.left c.next_wanted.new.self) c.in-Some.ensures.hop)

pub returns-in-None-clause-end : goal.returns-in-None-clause-end
returns-in-None-clause-end g c =
    grained_none (g.U.Unwanted.is_unwanted c.args.unwanted.now) c.args.self.now.grain (g.V.RoadView.left c.args.self.now.base) c.in-None.ensures.end
