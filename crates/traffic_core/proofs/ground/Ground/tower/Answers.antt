use Rattle.std.specs.Ordering.{int_eq}
use Rattle.std.specs.HashMap.{get}
use Rattle.std.specs.Int.{w64}
use Rattle.std.proofs.Common.{◌<◌, length, subst, arith}
use Rattle.std.proofs.lemmas.Option.{slice_get_within}
use Rattle.std.proofs.lemmas.Int.{to_z-of_z}
use Rattle.traffic_core.specs.Lands.{Land, IsTower, IsNoTower}
use Rattle.traffic_core.proofs.Index.{told, told_none}
use Rattle.traffic_core.proofs.ground.Ground.tower.Goals as goal

pub returns-in-None-clause-none : goal.returns-in-None-clause-none
returns-in-None-clause-none c =
    subst (λ (land : Land). IsNoTower land c.args.id) c.self.view_is
    (told_none c.self.inside.roads.ids (get int_eq c.self.inside.numbers) c.args.id _ (to_z-of_z w64 c.args.id c.ranges.id) c.self.invariant.numbers c.in-None.ensures.value)

pub returns-in-Some-clause-some : goal.returns-in-Some-clause-some
returns-in-Some-clause-some c =
    subst (λ (land : Land). IsTower land c.args.id c.in-Some.number.now) c.self.view_is
    (told c.self.inside.roads.ids (get int_eq c.self.inside.numbers) c.args.id _ c.in-Some.number.now (to_z-of_z w64 c.args.id c.ranges.id) c.self.invariant.numbers c.in-Some.ensures.value)

pub returns-in-Some-clause-there : goal.returns-in-Some-clause-there
returns-in-Some-clause-there c =
    let ids = c.self.inside.roads.ids in
    let here = told ids (get int_eq c.self.inside.numbers) c.args.id _ c.in-Some.number.now (to_z-of_z w64 c.args.id c.ranges.id) c.self.invariant.numbers c.in-Some.ensures.value in
    let within : c.in-Some.number.now < length ids = slice_get_within ids c.in-Some.number.now c.args.id here in
    subst (λ (land : Land). c.in-Some.number.now < length land.graph.places) c.self.view_is (omega (arith, within, c.self.invariant.land_is.ids))
