use Rattle.std.proofs.Common.{inl, inr}
use Rattle.traffic_core.proofs.StandsAfter.{stands_counted}
use Rattle.traffic_core.proofs.state.RoadState.apply.Goals as goal

pub returns-in-Lower-clause-stands : goal.returns-in-Lower-clause-stands
returns-in-Lower-clause-stands g c =
    stands_counted _ _ _ _ c.requires.can c.requires.before c.change.ensures.same (c.change.ensures.taken c.args.entry.now (inl c.in-Lower.is))

pub returns-in-Restore-clause-stands : goal.returns-in-Restore-clause-stands
returns-in-Restore-clause-stands g c =
    stands_counted _ _ _ _ c.requires.can c.requires.before c.change-in-Restore.ensures.same (c.change-in-Restore.ensures.taken c.args.entry.now (inr c.in-Restore.is))

pub returns-in-Publish-clause-stands : goal.returns-in-Publish-clause-stands
returns-in-Publish-clause-stands g c =
    stands_counted _ _ _ _ c.requires.can c.requires.before c.publish.ensures.same (c.publish.ensures.taken _ c.args.entry.now (rw c.prep.ensures c.in-Publish.is) c.requires.before)
