use Rattle.std.specs.Ordering.{int_eq}
use Rattle.std.specs.HashMap.{get}
use Rattle.std.specs.Int.{w64, cast_signed, cast_unsigned}
use Rattle.std.proofs.Common.{◌≡◌, ◌<◌, ◌-◌, ◌+◌, ℤ, pos, List, [], ◌∷◌, ◌++◌, length, take, drop, map, get_or, true, false, sym, ap, ◌∙◌, arith, rules, SFits}
use Rattle.std.proofs.lemmas.Int.{to_z-of_z}
use Rattle.std.proofs.lemmas.List.{get_or_default, length_push}
use Rattle.map_import.specs.Roads.{piece_of, cut_from}
use Rattle.map_import.specs.Refusals.{lay, lay_all}
use Rattle.map_import.specs.Building.{laid_as, tower_by}
use Rattle.map_import.proofs.Cuts.{way_step, way_skip, way_refuse}
use Rattle.map_import.proofs.Ends.{refuse_exit}
use Rattle.map_import.proofs.builder.Builder.lay_way.Goals as goal

pub returns-in_err-lay-clause-refused : goal.returns-in_err-lay-clause-refused
returns-in_err-lay-clause-refused c =
    let place = get int_eq c.args.places.now in
    let tower = tower_by (get int_eq c.args.towers.now) in
    let way = c.args.way.now in
    let all = c.as_slice.result.now in
    let rest : List ℤ = take (length all - 1) (drop 1 all) in
    let i = c.loop-id.id-index in
    let id : ℤ = get_or rest i (pos 0) in
    let begun = c.loop-id.piece.items in
    let from = laid_as c.loop-id.self.ids c.loop-id.self.graph.lists in
    let h : i < length rest = c.loop-id-test.true in
    let e = get_or_default rest i (pos 0) id h in
    let fits : SFits w64 id = search rules in
    let key : cast_signed w64 (cast_unsigned w64 id) ≡ id = to_z-of_z w64 id fits in
    let pushed : c.push-in-loop-id.new.self.items ≡ begun ++ id ∷ [] = cc (c.in_ok-push-2.ensures.items, key) in
    let is_it : c.is_marked.result ≡ tower id = cc (c.is_marked.ensures, key) in
    let marked : c.is_marked.result ≡ true = first_of (cc, grind arith, search rules) in
    let t : tower id ≡ true = sym is_it ∙ marked in
    let same = ap (λ (p : List ℤ). lay place from (piece_of way p)) (sym (c.deref.ensures.value ∙ pushed)) in
    refuse_exit _ c.in_err-lay.field-0.0 _ c.from_residual-in_err-lay.ensures.1 (λ n.
    way_refuse place way tower begun rest i id from c.in_err-lay.field-0.0 _ h e t (same ∙ c.in_err-lay.ensures.refused n) c.loop-id.invariant.1)

pub loop-id-preserved-then-not-is_marked : goal.loop-id-preserved-then-not-is_marked
loop-id-preserved-then-not-is_marked c =
    let place = get int_eq c.args.places.now in
    let tower = tower_by (get int_eq c.args.towers.now) in
    let way = c.args.way.now in
    let all = c.as_slice.result.now in
    let rest : List ℤ = take (length all - 1) (drop 1 all) in
    let i = c.loop-id.id-index in
    let id : ℤ = get_or rest i (pos 0) in
    let begun = c.loop-id.piece.items in
    let from = laid_as c.loop-id.self.ids c.loop-id.self.graph.lists in
    let h : i < length rest = c.loop-id-test.true in
    let e = get_or_default rest i (pos 0) id h in
    let fits : SFits w64 id = search rules in
    let key : cast_signed w64 (cast_unsigned w64 id) ≡ id = to_z-of_z w64 id fits in
    let pushed : c.push-in-loop-id.new.self.items ≡ begun ++ id ∷ [] = cc (c.in_ok-push-2.ensures.items, key) in
    let is_it : c.is_marked.result ≡ tower id = cc (c.is_marked.ensures, key) in
    let marked : c.is_marked.result ≡ false = first_of (cc, grind arith, search rules) in
    let t : tower id ≡ false = sym is_it ∙ marked in
    let count = ap length pushed ∙ length_push begun id in (
      c.loop-id.invariant.0,
      ap (λ (p : List ℤ). lay_all place from (map (piece_of way) (cut_from tower p (drop (i + 1) rest)))) pushed
          ∙ way_skip place way tower begun rest i id from _ h e t c.loop-id.invariant.1,
      omega arith,
    )

pub loop-id-preserved : goal.loop-id-preserved
loop-id-preserved c =
    let place = get int_eq c.args.places.now in
    let tower = tower_by (get int_eq c.args.towers.now) in
    let way = c.args.way.now in
    let all = c.as_slice.result.now in
    let rest : List ℤ = take (length all - 1) (drop 1 all) in
    let i = c.loop-id.id-index in
    let id : ℤ = get_or rest i (pos 0) in
    let begun = c.loop-id.piece.items in
    let from = laid_as c.loop-id.self.ids c.loop-id.self.graph.lists in
    let h : i < length rest = c.loop-id-test.true in
    let e = get_or_default rest i (pos 0) id h in
    let fits : SFits w64 id = search rules in
    let key : cast_signed w64 (cast_unsigned w64 id) ≡ id = to_z-of_z w64 id fits in
    let pushed : c.push-in-loop-id.new.self.items ≡ begun ++ id ∷ [] = cc (c.in_ok-push-2.ensures.items, key) in
    let is_it : c.is_marked.result ≡ tower id = cc (c.is_marked.ensures, key) in
    let marked : c.is_marked.result ≡ true = first_of (cc, grind arith, search rules) in
    let t : tower id ≡ true = sym is_it ∙ marked in
    let same = ap (λ (p : List ℤ). lay place from (piece_of way p)) (sym (c.deref.ensures.value ∙ pushed)) in
    let to = laid_as c.lay.new.self.ids c.lay.new.self.graph.lists in
    let again : c.push-in-loop-id-2.new.self.items ≡ c.clear.new.self.items ++ id ∷ [] = cc (c.in_ok-push-3.ensures.items, key) in
    let one : c.push-in-loop-id-2.new.self.items ≡ id ∷ [] = again ∙ ap (λ (l : List ℤ). l ++ id ∷ []) c.clear.ensures.items in
    let count = ap length one in (
      c.in_ok-lay.ensures.built,
      ap (λ (p : List ℤ). lay_all place to (map (piece_of way) (cut_from tower p (drop (i + 1) rest)))) one
          ∙ way_step place way tower begun rest i id from to _ h e t (same ∙ c.in_ok-lay.ensures.laid) c.loop-id.invariant.1,
      omega arith,
    )
