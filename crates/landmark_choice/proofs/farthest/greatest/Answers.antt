use Rattle.std.proofs.Common.{arith}
use Rattle.std.proofs.lemmas.Option.{IfSome_then}
use Rattle.alt_search.proofs.Listed.{within}
use Rattle.landmark_choice.proofs.farthest.greatest.Goals as goal

pub returns-clause-some : goal.returns-clause-some
returns-clause-some c =
    IfSome_then c.loop-i.best c.loop-i.invariant.found (λ f h. record {
      at = h.0;
      greatest = λ other d s. h.2 other d (let lt = within c.args.distances.now other d s in omega arith) s;
      first = λ other d s l. h.3 other d l s;
    })
