use Rattle.std.specs.Ordering.{int_eq}
use Rattle.std.specs.HashMap.{get}
use Rattle.std.specs.Int.{w64, cast_signed, cast_unsigned}
use Rattle.std.proofs.Common.{◌≡◌, ◌<◌, ◌+◌, ◌-◌, ℤ, pos, List, [], ◌∷◌, ◌++◌, length, take, drop, get_or, true, false, sym, ap, ◌∙◌, arith, rules, SFits}
use Rattle.std.proofs.lemmas.Int.{to_z-of_z}
use Rattle.std.proofs.lemmas.List.{get_or_default, length-drop, take_all}
use Rattle.map_import.specs.Roads.{UsedWay}
use Rattle.map_import.specs.Building.{tower_by}
use Rattle.map_import.proofs.WaysOfPieces.{ends_in, way_ends, end_here, end_later, ends_done}
use Rattle.map_import.proofs.origins.push_way.Goals as goal
use Rattle.map_import.proofs.origins.push_way.Goals.{then-is_marked+in_ok-push, else-is_marked}

pub loop-id-init : goal.loop-id-init
loop-id-init c =
    let all = c.as_slice.result.now in
    let rest : take (length all - 1) (drop 1 all) ≡ drop 1 all = take_all (length all - 1) (drop 1 all) (omega (arith, length-drop 1 all)) in
    way_ends (tower_by (get int_eq c.args.towers.now)) c.args.way.now all _ c.args.ids.now (c.as_slice.ensures.value ∙ ap (λ (w : UsedWay). w.refs) c.way.view_is) rest

pub loop-id-preserved : goal.loop-id-preserved
loop-id-preserved c =
    let tower = tower_by (get int_eq c.args.towers.now) in
    let way : ℤ = c.args.way.now.id in
    let all = c.as_slice.result.now in
    let rest : List ℤ = take (length all - 1) (drop 1 all) in
    let i = c.loop-id.id-index in
    let id : ℤ = get_or rest i (pos 0) in
    let h : i < length rest = c.loop-id-test.true in
    let e = get_or_default rest i (pos 0) id h in
    let fits : SFits w64 id = search rules in
    let key : cast_signed w64 (cast_unsigned w64 id) ≡ id = to_z-of_z w64 id fits in
    let is_it : c.is_marked.result ≡ tower id = cc (c.is_marked.ensures, key) in
    elim c.if-is_marked.branch [
      | then-is_marked+in_ok-push w ↦
          let marked : c.is_marked.result ≡ true = first_of (cc, grind arith, search rules) in
          let own : SFits w64 c.way.inside.id = search rules in
          let same : cast_signed w64 (cast_unsigned w64 c.way.inside.id) ≡ way = to_z-of_z w64 c.way.inside.id own ∙ ap (λ (u : UsedWay). u.id) c.way.view_is in
          let now : c.if-is_marked.ids ≡ c.loop-id.ids ++ way ∷ [] = w.ids-is ∙ w.in_ok-push.ensures.ok ∙ ap (λ (z : ℤ). c.loop-id.ids ++ z ∷ []) same in
          end_here tower way rest i id c.loop-id.ids c.if-is_marked.ids _ h e (sym is_it ∙ marked) now c.loop-id.invariant
      | else-is_marked w ↦
          let marked : c.is_marked.result ≡ false = first_of (cc, grind arith, search rules) in
          ap (λ (l : List ℤ). l ++ ends_in tower way (drop (i + 1) rest)) w.ids-is ∙ end_later tower way rest i id c.loop-id.ids _ h e (sym is_it ∙ marked) c.loop-id.invariant
    ]

pub returns : goal.returns
returns c = ends_done (tower_by (get int_eq c.args.towers.now)) c.args.way.now.id _ c.loop-id.id-index c.loop-id.ids _ c.loop-id-test.false c.loop-id.invariant
