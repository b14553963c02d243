use Rattle.std.proofs.Common.{◌≡◌, ◌*◌, ◌<◌, ◌^◌, All, length}
use Rattle.prep_store.specs.Stores.{words}
use Rattle.prep_store.specs.Readings.{place, Takes}
use Rattle.prep_store.proofs.head.read_limits.Given as goal

-- the limits so far were taken
abbrev pub invariant-limits : goal.invariant-limits
invariant-limits g l =
    let seen = place g.S.Source.left g.S.Source.faults g.S.Source.mark in
    record {
      taken : Takes (seen l.fn.source l.fn.at) (seen l.source l.at) (words l.limits);
      so_far : length l.limits ≡ l.counter;
      end : l.end ≡ 2 * l.fn.edges;
      each : All (λ limit. limit < 2 ^ 32) l.limits;
    }
