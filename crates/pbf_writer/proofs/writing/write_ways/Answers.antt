use Rattle.std.proofs.Common.{rules, ◌≡◌, ◌∙◌, ◌<◌, [], take, drop, length, ap, arith}
use Rattle.std.proofs.lemmas.Grind.{common_steps}
use Rattle.pbf_wire.specs.Writing.{ways_count}
use Rattle.pbf_writer.proofs.Sent.{on_err, sending_more, sending_part, sending_front, sending_end}
use Rattle.pbf_writer.proofs.writing.write_ways.Goals as goal

pub returns-in_err-count-clause-err : goal.returns-in_err-count-clause-err
returns-in_err-count-clause-err g c = on_err _ (sending_front _ _ _ _ _ _ c.parts.invariant.sending)

pub returns-in_err-send-clause-err : goal.returns-in_err-send-clause-err
returns-in_err-send-clause-err g c =
    let some : 0 < length c.parts.rest.now = first_of (search rules, grind (arith, common_steps)) in
    on_err _ (sending_part (g.K.Sink.held c.args.sink.now) (g.K.Sink.held c.parts.sink) (g.K.Sink.held c.send.new.sink) _ _ _ c.parts.rest.now (take c.in_ok-count.count c.parts.rest.now) c.deref.result.now c.parts.invariant.sending some (ap (λ n. take n c.parts.rest.now) c.in_ok-count.ensures.count) (c.deref.ensures.value ∙ c.in_ok-count.ensures.block) c.in_err-send.ensures.err)

pub parts-preserved : goal.parts-preserved
parts-preserved g c =
    let some : 0 < length c.parts.rest.now = first_of (search rules, grind (arith, common_steps)) in
    let counts : 0 < ways_count c.parts.rest.now = omega (arith, c.in_ok-count.ensures.some, c.in_ok-count.ensures.count) in
    record {
      sending = sending_more (g.K.Sink.held c.args.sink.now) (g.K.Sink.held c.parts.sink) (g.K.Sink.held c.send.new.sink) _ _ _ c.parts.rest.now (take c.in_ok-count.count c.parts.rest.now) c.split_at.result.1.now c.deref.result.now c.parts.invariant.sending some counts (ap (λ n. take n c.parts.rest.now) c.in_ok-count.ensures.count) (c.split_at.ensures.back ∙ ap (λ n. drop n c.parts.rest.now) c.in_ok-count.ensures.count) (c.deref.ensures.value ∙ c.in_ok-count.ensures.block) c.in_ok-send.ensures.ok;
      later = omega (arith, c.parts.invariant.later, c.in_ok-send.ensures.later);
    }

pub returns-clause-ok : goal.returns-clause-ok
returns-clause-ok g c =
    let none : c.parts.rest.now ≡ [] = first_of (search rules, grind (arith, common_steps)) in
    sending_end _ _ _ _ _ _ c.parts.invariant.sending none
