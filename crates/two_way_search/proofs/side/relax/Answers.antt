use Rattle.std.proofs.Common.{refl, sym, ◌∙◌}
use Rattle.two_way_search.proofs.Going.{asked_at, weighed}
use Rattle.two_way_search.proofs.side.relax.Goals as goal
use Rattle.two_way_search.proofs.side.relax.Goals.{in-Some-weight+else-known-total+in-Some-key_of, in_default-weight+in-Some-reduced_at}

pub returns-clause-asked : goal.returns-clause-asked
returns-clause-asked g c =
    let ahead = g.P.Potential.bound c.args.ahead.now in
    let behind = g.Q.Potential.bound c.args.behind.now in
    rw c.extend.ensures (asked_at ahead behind c.args.reached.now c.args.hop.to.0 _ c.requires.asked (elim c.match-weight.branch [
      | in-Some-weight+else-known-total+in-Some-key_of w ↦
          let known = weighed _ _ (sym c.weight.ensures ∙ w.in-Some-weight.is) in
          c.requires.asked c.args.hop.to.0 known.0 known.1
      | in_default-weight+in-Some-reduced_at w ↦ w.in-Some-reduced_at.ensures.small refl
    ]))
