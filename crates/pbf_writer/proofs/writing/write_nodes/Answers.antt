use Rattle.std.proofs.Common.{◌≡◌, ◌∙◌, ◌<◌, [], List, length, arith}
use Rattle.std.proofs.lemmas.Grind.{common_steps}
use Rattle.std.proofs.Common.{rules}
use Rattle.gh_base.specs.declared.map.OsmNode.{OsmNode}
use Rattle.pbf_wire.specs.Writing.{nodes_block}
use Rattle.pbf_writer.proofs.Sent.{on_err, sending_start, sending_more, sending_part, sending_front, sending_end, take_few, drop_few}
use Rattle.pbf_writer.proofs.writing.write_nodes.Goals as goal

pub parts-init : goal.parts-init
parts-init g c = record { sending = sending_start (g.K.Sink.held c.args.sink.now) (λ (left : List OsmNode). 8000) nodes_block c.args.nodes.now; later = omega arith }

pub returns-in_err-block-clause-err : goal.returns-in_err-block-clause-err
returns-in_err-block-clause-err g c = on_err _ (sending_front _ _ _ _ _ _ c.parts.invariant.sending)

pub returns-in_err-send-clause-err : goal.returns-in_err-send-clause-err
returns-in_err-send-clause-err g c =
    let some : 0 < length c.parts.rest.now = first_of (search rules, grind (arith, common_steps)) in
    on_err _ (sending_part (g.K.Sink.held c.args.sink.now) (g.K.Sink.held c.parts.sink) (g.K.Sink.held c.send.new.sink) _ _ _ c.parts.rest.now c.split_at.result.0.now c.deref.result.now c.parts.invariant.sending some (c.split_at.ensures.front ∙ take_few c.parts.rest.now 8000 c.min.result c.min.ensures) (c.deref.ensures.value ∙ c.in_ok-block.ensures) c.in_err-send.ensures.err)

pub parts-preserved : goal.parts-preserved
parts-preserved g c =
    let some : 0 < length c.parts.rest.now = first_of (search rules, grind (arith, common_steps)) in
    record {
      sending = sending_more (g.K.Sink.held c.args.sink.now) (g.K.Sink.held c.parts.sink) (g.K.Sink.held c.send.new.sink) _ _ _ c.parts.rest.now c.split_at.result.0.now c.split_at.result.1.now c.deref.result.now c.parts.invariant.sending some (omega arith) (c.split_at.ensures.front ∙ take_few c.parts.rest.now 8000 c.min.result c.min.ensures) (c.split_at.ensures.back ∙ drop_few c.parts.rest.now 8000 c.min.result c.min.ensures) (c.deref.ensures.value ∙ c.in_ok-block.ensures) c.in_ok-send.ensures.ok;
      later = omega (arith, c.parts.invariant.later, c.in_ok-send.ensures.later);
    }

pub returns-clause-ok : goal.returns-clause-ok
returns-clause-ok g c =
    let none : c.parts.rest.now ≡ [] = first_of (search rules, grind (arith, common_steps)) in
    sending_end _ _ _ _ _ _ c.parts.invariant.sending none
