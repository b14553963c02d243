use Rattle.std.proofs.Common.{subst}
use Rattle.std.specs.Prelude.{IfOk, ◌↔◌}
use Rattle.gh_base.specs.Networks.{Network}
use Rattle.walk_rules.specs.Walks.{NoWalk}
use Rattle.weighting.specs.declared.weight_view.Side.TheVariants.{Out}
use Rattle.two_way_search.specs.Answers.{IsNoWalk}
use Rattle.both_runs.proofs.Views.{turned_as, shown}
use Rattle.both_runs.proofs.between.search_between.Goals as goal

pub search_both-requires-clause-turned : goal.search_both-requires-clause-turned
search_both-requires-clause-turned g c =
    turned_as c.new-out.ensures.network c.new-back.ensures.network (c.sides_turn_along_edges.ensures _ _ _ c.graph-graph.result.now.facts)

pub returns-clause-none : goal.returns-clause-none
returns-clause-none g c =
    subst (λ (n : Network). IfOk c.search_both.result (λ both. IsNoWalk both ↔ NoWalk n c.args.from.0 c.args.to.0))
    (shown c.args.ground.now Out c.graph-graph.ensures c.profile.ensures.profile c.new-weighting.ensures c.new-opening.ensures.limits c.new-out.ensures.network)
    c.search_both.ensures.none
