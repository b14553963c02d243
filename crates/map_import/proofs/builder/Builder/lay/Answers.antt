use Rattle.std.specs.Ordering.{int_eq}
use Rattle.std.specs.HashMap.{get}
use Rattle.std.proofs.Common.{◌≡◌, ◌<◌, ◌≤◌, ◌-◌, ℕ, ℤ, pos, List, length, take, drop, get_or, Err, sym, ap, ◌∙◌, arith, rules, SFits}
use Rattle.std.specs.Int.{w64, cast_signed, cast_unsigned}
use Rattle.std.proofs.lemmas.Int.{to_z-of_z}
use Rattle.std.proofs.lemmas.List.Elements.{All-take, All-drop}
use Rattle.gh_base.specs.Places.{IsOnEarth}
use Rattle.map_import.specs.declared.faults.ImportFault.TheVariants as fault
use Rattle.map_import.specs.declared.faults.ImportFault.{ImportFault}
use Rattle.geo_math.specs.Lengths.{line_length}
use Rattle.map_import.specs.Roads.{UsedWay, points_along, piece_of, number, first_of, last_of, with_tower, with_towers}
use Rattle.map_import.specs.Building.{laid_as}
use Rattle.map_import.proofs.Built.{on_earth, is_too_long, is_full_of_edges, is_full_of_nodes, not_shorter, laid_more}
use Rattle.map_import.proofs.Ends.{refuse_exit}
use Rattle.map_import.proofs.builder.Builder.lay.Goals as goal

pub line_mm-mm-requires : goal.line_mm-mm-requires
line_mm-mm-requires c = on_earth (get int_eq c.args.places.now) c.args.piece.now c.deref.result.now c.requires.earth (c.deref.ensures.value ∙ c.in_ok-points.ensures)

pub returns-then-mm-gt-LONGEST_EDGE_MM-clause-refused : goal.returns-then-mm-gt-LONGEST_EDGE_MM-clause-refused
returns-then-mm-gt-LONGEST_EDGE_MM-clause-refused c = λ _.
    let place = get int_eq c.args.places.now in
    let way = c.args.way.now in
    let l = ap line_length (c.deref.ensures.value ∙ c.in_ok-points.ensures) in
    let long : 4294967295 < line_length (points_along place c.args.piece.now) = omega arith in
    let fits : SFits w64 c.way.inside.id = search rules in
    let id : cast_signed w64 (cast_unsigned w64 c.way.inside.id) ≡ way.id = to_z-of_z w64 c.way.inside.id fits ∙ ap (λ (w : UsedWay). w.id) c.way.view_is in
    is_too_long place (laid_as c.args.self.now.ids c.args.self.now.graph.lists) (piece_of way c.args.piece.now) long ∙ ap (λ (i : ℤ). Err (fault.TooLong i)) (sym id)

pub returns-then-edge_count-ge-MOST_EDGES-clause-refused : goal.returns-then-edge_count-ge-MOST_EDGES-clause-refused
returns-then-edge_count-ge-MOST_EDGES-clause-refused c = λ _.
    let place = get int_eq c.args.places.now in
    let l = ap line_length (c.deref.ensures.value ∙ c.in_ok-points.ensures) in
    let short : line_length (points_along place c.args.piece.now) ≤ 4294967295 = omega arith in
    is_full_of_edges place (laid_as c.args.self.now.ids c.args.self.now.graph.lists) (piece_of c.args.way.now c.args.piece.now) short (omega arith)

pub returns-in_err-base-clause-refused : goal.returns-in_err-base-clause-refused
returns-in_err-base-clause-refused c =
    let place = get int_eq c.args.places.now in
    let refs = c.args.piece.now in
    let self = c.args.self.now in
    let l = ap line_length (c.deref.ensures.value ∙ c.in_ok-points.ensures) in
    let short : line_length (points_along place refs) ≤ 4294967295 = omega arith in
    let few : length self.graph.lists.edges < 4000000 = omega arith in
    let fits1 : SFits w64 (get_or refs 0 (pos 0)) = search rules in
    let key1 : cast_signed w64 (cast_unsigned w64 (get_or refs 0 (pos 0))) ≡ get_or refs 0 (pos 0) = to_z-of_z w64 (get_or refs 0 (pos 0)) fits1 in
    refuse_exit _ c.in_err-base.field-0.0 _ c.from_residual-in_err-base.ensures.1 (λ n.
    let full = c.in_err-base.ensures.full n in
    let same = ap (λ (k : ℤ). length (with_tower self.ids k)) key1 in
    let longer = not_shorter (with_tower self.ids (first_of refs)) (last_of refs) in
    let more : 2000000 < length (with_towers self.ids refs) = omega arith in
    is_full_of_nodes place (laid_as self.ids self.graph.lists) (piece_of c.args.way.now refs) short few more
    ∙ ap (λ (e : ImportFault). Err e) (sym (c.in_err-base.ensures.which n)))

pub returns-in_err-adjacent-clause-refused : goal.returns-in_err-adjacent-clause-refused
returns-in_err-adjacent-clause-refused c =
    let place = get int_eq c.args.places.now in
    let refs = c.args.piece.now in
    let self = c.args.self.now in
    let l = ap line_length (c.deref.ensures.value ∙ c.in_ok-points.ensures) in
    let short : line_length (points_along place refs) ≤ 4294967295 = omega arith in
    let few : length self.graph.lists.edges < 4000000 = omega arith in
    let fits1 : SFits w64 (get_or refs 0 (pos 0)) = search rules in
    let key1 : cast_signed w64 (cast_unsigned w64 (get_or refs 0 (pos 0))) ≡ get_or refs 0 (pos 0) = to_z-of_z w64 (get_or refs 0 (pos 0)) fits1 in
    let ids1 : c.tower.new.self.ids ≡ with_tower self.ids (first_of refs) = c.in_ok-base.ensures.ids ∙ ap (with_tower self.ids) key1 in
    let fits2 : SFits w64 (get_or refs (length refs - 1) (pos 0)) = search rules in
    let key2 : cast_signed w64 (cast_unsigned w64 (get_or refs (length refs - 1) (pos 0))) ≡ get_or refs (length refs - 1) (pos 0) = to_z-of_z w64 (get_or refs (length refs - 1) (pos 0)) fits2 in
    refuse_exit _ c.in_err-adjacent.field-0.0 _ c.from_residual-in_err-adjacent.ensures.1 (λ n.
    let full = c.in_err-adjacent.ensures.full n in
    let same = ap (λ (k : ℤ). length (with_tower c.tower.new.self.ids k)) key2 ∙ ap (λ (i : List ℤ). length (with_tower i (last_of refs))) ids1 in
    let more : 2000000 < length (with_towers self.ids refs) = omega arith in
    is_full_of_nodes place (laid_as self.ids self.graph.lists) (piece_of c.args.way.now refs) short few more
    ∙ ap (λ (e : ImportFault). Err e) (sym (c.in_err-adjacent.ensures.which n)))

pub add_edge-requires-clause-between : goal.add_edge-requires-clause-between
add_edge-requires-clause-between c =
    let points = c.deref-2.result.now in
    let all = on_earth (get int_eq c.args.places.now) c.args.piece.now points c.requires.earth (c.deref-2.ensures.value ∙ c.in_ok-points.ensures) in
    All-take IsOnEarth (c.len.result - 1 - 1) (drop 1 points) (All-drop IsOnEarth 1 points all)

pub returns-clause-built : goal.returns-clause-built
returns-clause-built c =
    let place = get int_eq c.args.places.now in
    let refs = c.args.piece.now in
    let self = c.args.self.now in
    let l = ap line_length (c.deref.ensures.value ∙ c.in_ok-points.ensures) in
    let short : line_length (points_along place refs) ≤ 4294967295 = omega arith in
    let few : length self.graph.lists.edges < 4000000 = omega arith in
    let fits1 : SFits w64 (get_or refs 0 (pos 0)) = search rules in
    let key1 : cast_signed w64 (cast_unsigned w64 (get_or refs 0 (pos 0))) ≡ get_or refs 0 (pos 0) = to_z-of_z w64 (get_or refs 0 (pos 0)) fits1 in
    let ids1 : c.tower.new.self.ids ≡ with_tower self.ids (first_of refs) = c.in_ok-base.ensures.ids ∙ ap (with_tower self.ids) key1 in
    let fits2 : SFits w64 (get_or refs (length refs - 1) (pos 0)) = search rules in
    let key2 : cast_signed w64 (cast_unsigned w64 (get_or refs (length refs - 1) (pos 0))) ≡ get_or refs (length refs - 1) (pos 0) = to_z-of_z w64 (get_or refs (length refs - 1) (pos 0)) fits2 in
    let points = c.deref-2.result.now in
    let count = ap (λ (n : ℕ). take (n - 1 - 1) (drop 1 points)) (c.len.ensures ∙ sym c.deref-2.ensures.len) in
    let same_points = c.deref.ensures.value ∙ sym c.deref-2.ensures.value in
    let same_length = ap line_length same_points in
    let whole : c.line_mm-mm.result ≡ line_length points = omega arith in
    let both = laid_more place self.graph.lists c.tower-2.new.self.graph.lists c.add_edge.new.self.lists
    self.ids c.tower.new.self.ids c.tower-2.new.self.ids (get int_eq c.tower-2.new.self.numbers) (piece_of c.args.way.now refs)
    c.in_ok-base.base c.in_ok-adjacent.adjacent c.line_mm-mm.result (take (c.len.result - 1 - 1) (drop 1 points)) points c.way.inside.values
    c.requires.two (c.deref-2.ensures.value ∙ c.in_ok-points.ensures) whole (omega arith) few
    ids1 (c.in_ok-adjacent.ensures.ids ∙ ap (with_tower c.tower.new.self.ids) key2)
    c.tower-2.new.self.graph.facts c.in_ok-adjacent.ensures.built (c.in_ok-adjacent.ensures.edges ∙ c.in_ok-base.ensures.edges)
    (c.in_ok-base.ensures.node ∙ ap (number c.tower.new.self.ids) key1) (c.in_ok-adjacent.ensures.node ∙ ap (number c.tower-2.new.self.ids) key2)
    c.in_ok-add_edge.ensures.places c.in_ok-add_edge.ensures.edges count (ap (λ (w : UsedWay). w.values) c.way.view_is) in
    both.1

pub returns-clause-laid : goal.returns-clause-laid
returns-clause-laid c =
    let place = get int_eq c.args.places.now in
    let refs = c.args.piece.now in
    let self = c.args.self.now in
    let l = ap line_length (c.deref.ensures.value ∙ c.in_ok-points.ensures) in
    let short : line_length (points_along place refs) ≤ 4294967295 = omega arith in
    let few : length self.graph.lists.edges < 4000000 = omega arith in
    let fits1 : SFits w64 (get_or refs 0 (pos 0)) = search rules in
    let key1 : cast_signed w64 (cast_unsigned w64 (get_or refs 0 (pos 0))) ≡ get_or refs 0 (pos 0) = to_z-of_z w64 (get_or refs 0 (pos 0)) fits1 in
    let ids1 : c.tower.new.self.ids ≡ with_tower self.ids (first_of refs) = c.in_ok-base.ensures.ids ∙ ap (with_tower self.ids) key1 in
    let fits2 : SFits w64 (get_or refs (length refs - 1) (pos 0)) = search rules in
    let key2 : cast_signed w64 (cast_unsigned w64 (get_or refs (length refs - 1) (pos 0))) ≡ get_or refs (length refs - 1) (pos 0) = to_z-of_z w64 (get_or refs (length refs - 1) (pos 0)) fits2 in
    let points = c.deref-2.result.now in
    let count = ap (λ (n : ℕ). take (n - 1 - 1) (drop 1 points)) (c.len.ensures ∙ sym c.deref-2.ensures.len) in
    let same_points = c.deref.ensures.value ∙ sym c.deref-2.ensures.value in
    let same_length = ap line_length same_points in
    let whole : c.line_mm-mm.result ≡ line_length points = omega arith in
    let both = laid_more place self.graph.lists c.tower-2.new.self.graph.lists c.add_edge.new.self.lists
    self.ids c.tower.new.self.ids c.tower-2.new.self.ids (get int_eq c.tower-2.new.self.numbers) (piece_of c.args.way.now refs)
    c.in_ok-base.base c.in_ok-adjacent.adjacent c.line_mm-mm.result (take (c.len.result - 1 - 1) (drop 1 points)) points c.way.inside.values
    c.requires.two (c.deref-2.ensures.value ∙ c.in_ok-points.ensures) whole (omega arith) few
    ids1 (c.in_ok-adjacent.ensures.ids ∙ ap (with_tower c.tower.new.self.ids) key2)
    c.tower-2.new.self.graph.facts c.in_ok-adjacent.ensures.built (c.in_ok-adjacent.ensures.edges ∙ c.in_ok-base.ensures.edges)
    (c.in_ok-base.ensures.node ∙ ap (number c.tower.new.self.ids) key1) (c.in_ok-adjacent.ensures.node ∙ ap (number c.tower-2.new.self.ids) key2)
    c.in_ok-add_edge.ensures.places c.in_ok-add_edge.ensures.edges count (ap (λ (w : UsedWay). w.values) c.way.view_is) in
    both.0
