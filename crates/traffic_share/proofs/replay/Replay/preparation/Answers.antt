use Rattle.std.proofs.Common.{ap}
use Rattle.traffic_core.specs.Seen.{seen}
use Rattle.traffic_share.proofs.EntriesFound.{guide_over, guide_is_true}
use Rattle.traffic_share.proofs.replay.Replay.preparation.Goals as goal

pub returns-clause-guide : goal.returns-clause-guide
returns-clause-guide g c =
    guide_over g.J.Naming.land _ _ _ c.args.profile (seen c.preparation.result) c.self.invariant.0 (ap (λ p. p.entries) c.self.view_is) c.preparation.ensures.guide

pub returns-clause-holds : goal.returns-clause-holds
returns-clause-holds g c =
    guide_is_true g.J.Naming.land _ _ c.args.profile c.preparation.result c.self.invariant.0 c.preparation.ensures.guide
