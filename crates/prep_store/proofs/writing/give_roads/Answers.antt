use Rattle.std.proofs.Common.{◌<◌, ◌∙◌, sym, subst, ap}
use Rattle.std.proofs.lemmas.Result.{on_ok_weaker, on_err_weaker}
use Rattle.gh_base.specs.Networks.{Network}
use Rattle.weighting.specs.declared.weight_view.Side.TheVariants.{Out, Back}
use Rattle.traffic_core.specs.History.{limit_in}
use Rattle.prep_store.specs.Stores.{roads_at}
use Rattle.prep_store.specs.Ordering.{AreTexts, IsGiven, IsCutOff}
use Rattle.prep_store.proofs.Whole.{prep_nodes, prep_table, seen_roads, texts_over}
use Rattle.prep_store.proofs.writing.give_roads.Goals as goal

pub give_lists-requires-clause-nodes : goal.give_lists-requires-clause-nodes
give_lists-requires-clause-nodes g c = λ place node e.
    let prep = c.args.prep.now in
    let out = seen_roads Out c.args.ground.now prep c.profile.result c.profile-2.result.now c.new-weighting.result (limit_in c.new-listed.result.list.now) c.snapshot.result.now c.graph-graph.result.now.lists _
    c.new-out.ensures.network c.new-weighting.ensures c.profile-2.ensures.profile c.profile.ensures c.new-listed.ensures.limits c.snapshot.ensures c.graph-graph.ensures in
    subst (λ (n : Network). node < n.nodes) (sym out) (prep_nodes (roads_at c.args.ground.now prep.profile prep.snapshot) prep c.requires.is_prep place node e)

pub give_lists-requires-clause-table : goal.give_lists-requires-clause-table
give_lists-requires-clause-table g c = prep_table (roads_at c.args.ground.now c.args.prep.now.profile c.args.prep.now.snapshot) c.args.prep.now c.requires.is_prep

pub give_lists-requires-clause-labels : goal.give_lists-requires-clause-labels
give_lists-requires-clause-labels g c =
    let prep = c.args.prep.now in
    let out = seen_roads Out c.args.ground.now prep c.profile.result c.profile-2.result.now c.new-weighting.result (limit_in c.new-listed.result.list.now) c.snapshot.result.now c.graph-graph.result.now.lists _
    c.new-out.ensures.network c.new-weighting.ensures c.profile-2.ensures.profile c.profile.ensures c.new-listed.ensures.limits c.snapshot.ensures c.graph-graph.ensures in
    c.preparations_are_one.ensures.nodes (roads_at c.args.ground.now prep.profile prep.snapshot) _ prep c.requires.is_prep ∙ ap (λ (n : Network). n.nodes) (sym out)

pub returns : goal.returns
returns g c =
    let prep = c.args.prep.now in
    let out = seen_roads Out c.args.ground.now prep c.profile.result c.profile-2.result.now c.new-weighting.result (limit_in c.new-listed.result.list.now) c.snapshot.result.now c.graph-graph.result.now.lists _
    c.new-out.ensures.network c.new-weighting.ensures c.profile-2.ensures.profile c.profile.ensures c.new-listed.ensures.limits c.snapshot.ensures c.graph-graph.ensures in
    let back = seen_roads Back c.args.ground.now prep c.profile.result c.profile-2.result.now c.new-weighting.result (limit_in c.new-listed.result.list.now) c.snapshot.result.now c.graph-graph.result.now.lists _
    c.new-back.ensures.network c.new-weighting.ensures c.profile-2.ensures.profile c.profile.ensures c.new-listed.ensures.limits c.snapshot.ensures c.graph-graph.ensures in
    let old = g.K.Sink.held c.args.sink.now in
    let new = g.K.Sink.held c.give_lists.new.sink in
    record {
      ok = on_ok_weaker c.give_lists.result (λ s. texts_over (λ (one other : Network). IsGiven (AreTexts one other prep.grain prep.landmarks prep.labels) old new) out back s) c.give_lists.ensures.ok;
      err = on_err_weaker c.give_lists.result (λ s. texts_over (λ (one other : Network). IsCutOff (AreTexts one other prep.grain prep.landmarks prep.labels) old new) out back s) c.give_lists.ensures.err;
      fault = c.give_lists.ensures.fault;
      later = c.give_lists.ensures.later;
    }
