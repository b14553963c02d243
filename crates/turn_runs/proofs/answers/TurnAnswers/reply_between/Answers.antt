use Rattle.std.proofs.Common.{None, Some, refl, sym, subst, ap, ◌∙◌}
use Rattle.walk_rules.specs.Potentials.{IsFeasible, flat}
use Rattle.landmark_prep.specs.Preparations.{nodes_of}
use Rattle.landmark_prep.specs.Bounds.{picked, potential_of}
use Rattle.map_roads.specs.Opening.{opening_network, guide_of}
use Rattle.map_roads.proofs.Guiding.{flat_feasible}
use Rattle.turn_runs.specs.Lines.{TurnRoads}
use Rattle.turn_runs.proofs.Searched.{right_guided}
use Rattle.turn_runs.proofs.answers.TurnAnswers.reply_between.Goals as goal

pub reply_by-requires-clause-feasible : goal.reply_by-requires-clause-feasible
reply_by-requires-clause-feasible c = flat_feasible (opening_network c.args.self.now.land) c.args.to.0

pub returns-in-NoLandmark : goal.returns-in-NoLandmark
returns-in-NoLandmark c =
    right_guided c.args.self.now c.self.inside.ground.now None (ap (λ (r : TurnRoads). r.land) c.self.view_is)
    (sym (ap guide_of c.in-NoLandmark.is) ∙ ap (λ (r : TurnRoads). r.guide) c.self.view_is) c.args.from c.args.to flat refl
    c.reply_by.result c.reply_by.ensures.apart c.reply_by.ensures.here

pub reply_by-requires-in-Prep-clause-feasible : goal.reply_by-requires-in-Prep-clause-feasible
reply_by-requires-in-Prep-clause-feasible c =
    let p = c.potential_between-potential.result in
    subst (λ (r : TurnRoads). IsFeasible (opening_network r.land) (potential_of (picked p.prep.now.labels p.active) p.goal (nodes_of p.prep.now.labels)) c.args.to.0) c.self.view_is
    c.potential_between-potential.ensures.feasible

pub returns-in-Prep : goal.returns-in-Prep
returns-in-Prep c =
    let p = c.potential_between-potential.result in
    right_guided c.args.self.now c.self.inside.ground.now (Some c.in-Prep.prep) (ap (λ (r : TurnRoads). r.land) c.self.view_is)
    (sym (ap guide_of c.in-Prep.is) ∙ ap (λ (r : TurnRoads). r.guide) c.self.view_is) c.args.from c.args.to
    (potential_of (picked p.prep.now.labels p.active) p.goal (nodes_of p.prep.now.labels)) c.potential_between-potential.ensures.bound
    c.reply_by-in-Prep.result c.reply_by-in-Prep.ensures.apart c.reply_by-in-Prep.ensures.here
