use Rattle.traffic_share.proofs.EntriesFound.{index_within}
use Rattle.traffic_share.proofs.sealed.TruePrep.limit.Goals as goal

pub listed_limit-requires : goal.listed_limit-requires
listed_limit-requires g c =
    rw (c.snapshot.ensures, c.prep.ensures) (index_within _ g.J.Naming.land.graph c.args.edge c.shared.ensures.holds.long c.requires)
