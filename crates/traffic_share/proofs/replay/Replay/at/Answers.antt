use Rattle.std.proofs.Common.{ap, sym, subst, ◌<◌, List, length}
use Rattle.traffic_core.specs.declared.entry.Entry.{Entry}
use Rattle.traffic_share.proofs.EntriesFound.{true_at, on_land_at}
use Rattle.traffic_share.proofs.replay.Replay.at.Goals as goal

pub returns-clause-holds : goal.returns-clause-holds
returns-clause-holds g c =
    let P : List Entry → Type 0 = λ es. c.args.place < length es in
    true_at g.J.Naming.land c.self.inside.found.refs.items _ c.index.result.now c.args.place c.self.invariant.0 (subst P (sym (ap (λ p. p.entries) c.self.view_is)) c.requires) c.index.ensures

pub returns-clause-on_land : goal.returns-clause-on_land
returns-clause-on_land g c =
    let P : List Entry → Type 0 = λ es. c.args.place < length es in
    on_land_at g.J.Naming.land c.self.inside.found.refs.items _ c.index.result.now c.args.place c.self.invariant.0 (subst P (sym (ap (λ p. p.entries) c.self.view_is)) c.requires) c.index.ensures
