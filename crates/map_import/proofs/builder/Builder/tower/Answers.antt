use Rattle.std.specs.Ordering.{int_eq}
use Rattle.std.specs.Option.{is_some}
use Rattle.std.specs.HashMap.{get}
use Rattle.std.specs.Int.{w64, cast_signed, cast_unsigned}
use Rattle.std.proofs.Common.{◌≡◌, ℤ, List, Some, length, ◌∷◌, ◌++◌, [], false, sym, ap, ◌∙◌, arith}
use Rattle.std.proofs.lemmas.Int.{to_z-of_z}
use Rattle.std.proofs.lemmas.List.{length-map}
use Rattle.map_import.specs.Roads.{number, is_numbered, place_at}
use Rattle.map_import.specs.Building.{number_of}
use Rattle.map_import.proofs.Numbers.{number_next, id_is_itself}
use Rattle.map_import.proofs.Built.{tower_there, tower_built, not_numbered, found_number}
use Rattle.map_import.proofs.builder.Builder.tower.Goals as goal

pub returns-in-Some-clause-there : goal.returns-in-Some-clause-there
returns-in-Some-clause-there c =
    let self = c.args.self.now in
    let ids = self.ids in
    let id = c.args.id in
    let n = c.in-Some.number.now in
    let built = c.requires.built in
    let key : cast_signed w64 (cast_unsigned w64 id) ≡ id = to_z-of_z w64 id c.ranges.id in
    let e : number_of ids id ≡ Some n = sym (built.numbers id) ∙ ap (λ (k : ℤ). get int_eq self.numbers k) (sym key) ∙ sym c.in-Some.ensures.value in
    let found = found_number ids id n e in
    let same = found.1 in
    let there = tower_there (get int_eq c.args.places.now) self.graph.lists ids (get int_eq self.numbers) id built found.0 in
    omega arith

pub returns-clause-built : goal.returns-clause-built
returns-clause-built c =
    let self = c.args.self.now in
    let ids = self.ids in
    let id = c.args.id in
    let place = get int_eq c.args.places.now in
    let built = c.requires.built in
    let key : cast_signed w64 (cast_unsigned w64 id) ≡ id = to_z-of_z w64 id c.ranges.id in
    let none : is_some (get int_eq self.numbers id) ≡ false = ap (λ (k : ℤ). is_some (get int_eq self.numbers k)) (sym key) ∙ ap is_some (sym c.in_default.ensures.value) in
    let new : is_numbered ids id ≡ false = not_numbered ids id (get int_eq self.numbers id) (built.numbers id) none in
    tower_built place self.graph.lists c.add_node.new.self.lists ids c.push.new.self id (get int_eq self.numbers) (get int_eq c.insert.new.self)
    self.graph.facts built new
    (cc (c.in_ok-node.ensures.places, c.point_at.ensures, key))
    c.add_node.ensures.edges
    (cc (c.in_ok-push.ensures.ok, key))
    (λ q. cc (c.in_ok-insert.ensures.updates.0 q, key, c.in_ok-node.ensures.node))

pub returns-clause-node : goal.returns-clause-node
returns-clause-node c =
    let self = c.args.self.now in
    let ids = self.ids in
    let id = c.args.id in
    let place = get int_eq c.args.places.now in
    let built = c.requires.built in
    let key : cast_signed w64 (cast_unsigned w64 id) ≡ id = to_z-of_z w64 id c.ranges.id in
    let none : is_some (get int_eq self.numbers id) ≡ false = ap (λ (k : ℤ). is_some (get int_eq self.numbers k)) (sym key) ∙ ap is_some (sym c.in_default.ensures.value) in
    let new : is_numbered ids id ≡ false = not_numbered ids id (get int_eq self.numbers id) (built.numbers id) none in
    let more : c.push.new.self ≡ ids ++ id ∷ [] = cc (c.in_ok-push.ensures.ok, key) in
    c.in_ok-node.ensures.node ∙ ap length built.places ∙ length-map ids (place_at place)
    ∙ sym (number_next ids id id new (id_is_itself id)) ∙ ap (λ (l : List ℤ). number l id) (sym more)
