use Rattle.turn_graph.proofs.Bounding.{feasible_by_states}
use Rattle.turn_graph.proofs.bound.TurnPotential.new.Goals as goal

pub returns-clause-feasible : goal.returns-clause-feasible
returns-clause-feasible g c = λ base is_banned to over f.
    feasible_by_states (record { base = base; graph = c.args.graph.now.lists; is_banned = is_banned; from = c.args.from.0; to = to }) over (g.P.Potential.bound c.args.inner) f
