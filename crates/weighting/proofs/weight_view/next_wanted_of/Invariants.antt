use Rattle.std.proofs.Common.{◌≡◌, length}
use Rattle.std.specs.Prelude.{map}
use Rattle.gh_base.specs.Networks.{wanted_from}
use Rattle.weighting.specs.Roads.{hop_of, AreOf}
use Rattle.weighting.proofs.weight_view.next_wanted_of.Given as goal

-- the first hop that is wanted is still to come
abbrev pub invariant-loop-starting : goal.invariant-loop-starting
invariant-loop-starting g l =
    let hops = map (hop_of l.side l.weighting (g.L.Limits.limit_of l.limits) l.graph.lists) in
    record {
      first : wanted_from (g.U.Unwanted.is_unwanted l.unwanted) (hops l.around) ≡ wanted_from (g.U.Unwanted.is_unwanted l.unwanted) (hops l.fn.around);
      known : AreOf l.graph.lists l.around;
    }

abbrev pub decreases-loop-starting : goal.decreases-loop-starting
decreases-loop-starting g l = length l.around
