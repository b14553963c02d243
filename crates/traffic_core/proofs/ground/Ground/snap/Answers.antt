use Rattle.std.proofs.Common.{◌<◌, None, Some, length, subst, sym, arith, rules}
use Rattle.std.proofs.lemmas.Slice.Zip.{AllZip-long}
use Rattle.traffic_core.specs.Lands.{Land, land_of}
use Rattle.traffic_core.specs.Places.{IsSnapOf}
use Rattle.traffic_core.specs.Grounds.{AreUsable}
use Rattle.traffic_core.proofs.Usables.{usable_at, snap_none, snap_at}
use Rattle.traffic_core.proofs.ground.Ground.snap.Goals as goal

pub index-usable-requires : goal.index-usable-requires
index-usable-requires c =
    let there : c.args.profile < length c.self.inside.profiles = subst (λ (land : Land). c.args.profile < length land.profiles) (sym c.self.view_is) c.requires.profile in
    let long = AllZip-long (AreUsable c.self.inside.roads.graph.lists) c.self.inside.profiles c.self.inside.usable.items c.self.invariant.usable_are in
    omega (arith, there, long)

pub nearest-requires-clause-usable : goal.nearest-requires-clause-usable
nearest-requires-clause-usable c =
    let there = subst (λ (land : Land). c.args.profile < length land.profiles) (sym c.self.view_is) c.requires.profile in
    (usable_at c.self.inside.roads.graph.lists c.self.inside.profiles c.self.inside.usable.items c.args.profile c.index-usable.result.now c.self.invariant.usable_are there c.index-usable.ensures).edges

pub returns-in-None-clause-spot : goal.returns-in-None-clause-spot
returns-in-None-clause-spot c =
    let there = subst (λ (land : Land). c.args.profile < length land.profiles) (sym c.self.view_is) c.requires.profile in
    let usable = usable_at c.self.inside.roads.graph.lists c.self.inside.profiles c.self.inside.usable.items c.args.profile c.index-usable.result.now c.self.invariant.usable_are there c.index-usable.ensures in
    subst (λ (land : Land). IsSnapOf land c.args.profile c.args.point None) c.self.view_is
    (snap_none (land_of c.self.inside.roads c.self.inside.profiles) c.args.profile c.args.point c.index-usable.result.now usable (c.in-None.ensures.none.0 (search rules)))

pub returns-in-Some-clause-spot : goal.returns-in-Some-clause-spot
returns-in-Some-clause-spot c =
    let there = subst (λ (land : Land). c.args.profile < length land.profiles) (sym c.self.view_is) c.requires.profile in
    let usable = usable_at c.self.inside.roads.graph.lists c.self.inside.profiles c.self.inside.usable.items c.args.profile c.index-usable.result.now c.self.invariant.usable_are there c.index-usable.ensures in
    subst (λ (land : Land). IsSnapOf land c.args.profile c.args.point (Some c.spot_along.result)) c.self.view_is
    (snap_at (land_of c.self.inside.roads c.self.inside.profiles) c.args.profile c.args.point c.index-usable.result.now usable c.in-Some.at c.spot_along.result c.in-Some.ensures.nearest c.spot_along.ensures.spot)
