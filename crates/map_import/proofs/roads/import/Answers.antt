use Rattle.std.specs.Ordering.{int_eq}
use Rattle.std.specs.HashMap.{get}
use Rattle.std.proofs.Common.{◌≡◌, ℤ, List, Option, Ok, Err, None, unwrap_or, sym, ap, ◌∙◌, subst}
use Rattle.gh_base.specs.declared.map.OsmNode.{OsmNode}
use Rattle.gh_base.specs.declared.map.Point.{Point}
use Rattle.gh_base.specs.Places.{IsOnEarth}
use Rattle.base_graph.specs.Graphs.{Graph}
use Rattle.map_import.specs.Roads.{UsedWay, used_ways, is_tower, place_in, origin}
use Rattle.map_import.specs.Refusals.{first_twice, first_missing}
use Rattle.map_import.specs.Building.{laid_as, tower_by}
use Rattle.map_import.proofs.Ends.{refuse_exit, roads_twice, roads_missing, roads_laid, place_on_earth}
use Rattle.map_import.proofs.roads.import.Goals as goal

pub returns-in_err-places-clause-refused : goal.returns-in_err-places-clause-refused
returns-in_err-places-clause-refused c =
    refuse_exit _ c.in_err-places.field-0.0 _ c.from_residual.ensures.1 (λ n.
    roads_twice c.args.map.now c.in_err-places.field-0.0 (ap first_twice (sym c.as_slice.ensures) ∙ c.in_err-places.ensures.twice n))

pub returns-in_err-check_ways-clause-refused : goal.returns-in_err-check_ways-clause-refused
returns-in_err-check_ways-clause-refused c =
    let map = c.args.map.now in
    let place = get int_eq c.in_ok-places.places in
    let once : first_twice map.nodes ≡ None = ap first_twice (sym c.as_slice.ensures) ∙ c.in_ok-places.ensures.once in
    let places : (id : ℤ) → place id ≡ place_in map.nodes id = λ id. c.in_ok-places.ensures.places id ∙ ap (λ (l : List OsmNode). place_in l id) c.as_slice.ensures in
    let used : c.deref.result.now ≡ used_ways map.ways = c.deref.ensures.value ∙ c.in_ok-ways.ensures ∙ ap used_ways c.as_slice-2.ensures in
    refuse_exit _ c.in_err-check_ways.field-0.0 _ c.from_residual-in_err-check_ways.ensures.1 (λ n.
    roads_missing map place c.deref.result.now c.in_err-check_ways.field-0.0 once places used c.in_err-check_ways.ensures.missing)

pub lay_ways-requires-clause-earth : goal.lay_ways-requires-clause-earth
lay_ways-requires-clause-earth c id =
    let map = c.args.map.now in
    let place : get int_eq c.in_ok-places.places id ≡ place_in map.nodes id = c.in_ok-places.ensures.places id ∙ ap (λ (l : List OsmNode). place_in l id) c.as_slice.ensures in
    subst (λ (o : Option Point). IsOnEarth (unwrap_or o origin)) (sym place) (place_on_earth map.nodes c.requires id)

pub lay_ways-requires-clause-built : goal.lay_ways-requires-clause-built
lay_ways-requires-clause-built c = c.in_ok-builder.ensures.built (get int_eq c.in_ok-places.places)

pub returns-in_err-lay_ways-clause-refused : goal.returns-in_err-lay_ways-clause-refused
returns-in_err-lay_ways-clause-refused c =
    let map = c.args.map.now in
    let place = get int_eq c.in_ok-places.places in
    let ways = c.deref-3.result.now in
    let once : first_twice map.nodes ≡ None = ap first_twice (sym c.as_slice.ensures) ∙ c.in_ok-places.ensures.once in
    let places : (id : ℤ) → place id ≡ place_in map.nodes id = λ id. c.in_ok-places.ensures.places id ∙ ap (λ (l : List OsmNode). place_in l id) c.as_slice.ensures in
    let used : ways ≡ used_ways map.ways = c.deref-3.ensures.value ∙ c.in_ok-ways.ensures ∙ ap used_ways c.as_slice-2.ensures in
    let there : first_missing place ways ≡ None = ap (first_missing place) (c.deref-3.ensures.value ∙ sym c.deref.ensures.value) ∙ c.in_ok-check_ways.ensures.there in
    let towers : (id : ℤ) → tower_by (get int_eq c.in_ok-towers.towers) id ≡ is_tower ways id =
    λ id. c.in_ok-towers.ensures id ∙ ap (λ (l : List UsedWay). is_tower l id) (c.deref-2.ensures.value ∙ sym c.deref-3.ensures.value) in
    let made = c.in_ok-builder.builder in
    refuse_exit _ c.in_err-lay_ways.field-0.0 _ c.from_residual-in_err-lay_ways.ensures.1 (λ n.
    roads_laid map place (tower_by (get int_eq c.in_ok-towers.towers)) ways made.ids made.graph.lists (Err c.in_err-lay_ways.field-0.0)
    once places towers used there c.in_ok-builder.ensures.ids c.in_ok-builder.ensures.edges (c.in_err-lay_ways.ensures.refused n))

pub returns-clause-roads : goal.returns-clause-roads
returns-clause-roads c =
    let map = c.args.map.now in
    let place = get int_eq c.in_ok-places.places in
    let ways = c.deref-3.result.now in
    let once : first_twice map.nodes ≡ None = ap first_twice (sym c.as_slice.ensures) ∙ c.in_ok-places.ensures.once in
    let places : (id : ℤ) → place id ≡ place_in map.nodes id = λ id. c.in_ok-places.ensures.places id ∙ ap (λ (l : List OsmNode). place_in l id) c.as_slice.ensures in
    let used : ways ≡ used_ways map.ways = c.deref-3.ensures.value ∙ c.in_ok-ways.ensures ∙ ap used_ways c.as_slice-2.ensures in
    let there : first_missing place ways ≡ None = ap (first_missing place) (c.deref-3.ensures.value ∙ sym c.deref.ensures.value) ∙ c.in_ok-check_ways.ensures.there in
    let towers : (id : ℤ) → tower_by (get int_eq c.in_ok-towers.towers) id ≡ is_tower ways id =
    λ id. c.in_ok-towers.ensures id ∙ ap (λ (l : List UsedWay). is_tower l id) (c.deref-2.ensures.value ∙ sym c.deref-3.ensures.value) in
    let made = c.in_ok-builder.builder in
    let done = c.lay_ways.new.self in
    roads_laid map place (tower_by (get int_eq c.in_ok-towers.towers)) ways made.ids made.graph.lists (Ok (laid_as done.ids done.graph.lists))
    once places towers used there c.in_ok-builder.ensures.ids c.in_ok-builder.ensures.edges c.in_ok-lay_ways.ensures.laid
    ∙ ap (λ (l : List ℤ). Ok (laid_as l done.graph.lists)) (sym c.into_roads.ensures.ids)
    ∙ ap (λ (g : Graph). Ok (laid_as c.into_roads.result.ids g)) (sym c.into_roads.ensures.graph)
