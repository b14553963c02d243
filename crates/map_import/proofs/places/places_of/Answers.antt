use Rattle.std.specs.Ordering.{int_eq}
use Rattle.std.specs.Option.{is_some}
use Rattle.std.specs.HashMap.{get}
use Rattle.std.specs.Int.{w64, cast_signed, cast_unsigned}
use Rattle.std.proofs.Common.{◌≡◌, ◌<◌, ℤ, Some, cond, length, get_or, pos, false, sym, ap, ◌∙◌, rules, SFits}
use Rattle.std.proofs.lemmas.Int.{to_z-of_z}
use Rattle.std.proofs.lemmas.List.{get_or_default}
use Rattle.gh_base.specs.declared.map.OsmNode.{OsmNode}
use Rattle.map_import.proofs.Nodes.{place_more, twice_more}
use Rattle.map_import.proofs.places.places_of.Goals as goal

pub loop-node-preserved : goal.loop-node-preserved
loop-node-preserved c =
    let nodes = c.args.nodes.now in
    let i = c.loop-node.node-index in
    let none : OsmNode = record { id = pos 0; place = record { lat = pos 0; lon = pos 0 } } in
    let node : OsmNode = get_or nodes i none in
    let h : i < length nodes = c.loop-node-test.true in
    let e = get_or_default nodes i none node h in
    let fits : SFits w64 node.id = search rules in
    let key : cast_signed w64 (cast_unsigned w64 node.id) ≡ node.id = to_z-of_z w64 node.id fits in
    let was : is_some (get int_eq c.loop-node.places (cast_signed w64 (cast_unsigned w64 node.id))) ≡ false = ap is_some (sym c.in_ok-insert.ensures.old) ∙ sym c.is_some.ensures ∙ c.if-is_some.false in
    let new : is_some (get int_eq c.loop-node.places node.id) ≡ false = sym (ap (λ (k : ℤ). is_some (get int_eq c.loop-node.places k)) key) ∙ was in (
      place_more nodes i node (get int_eq c.loop-node.places) (get int_eq c.insert.new.self) h e c.loop-node.invariant.0 new
          (λ q. c.in_ok-insert.ensures.updates.0 q ∙ ap (λ (k : ℤ). cond (int_eq k q) (Some node.place) (get int_eq c.loop-node.places q)) key),
      twice_more nodes i node (get int_eq c.loop-node.places) h e c.loop-node.invariant.0 new ∙ c.loop-node.invariant.1,
    )
