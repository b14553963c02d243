use Rattle.std.proofs.Common.{sym, ap}
use Rattle.value_plan.specs.Slots.{Place, first_in, number_of}
use Rattle.value_plan.proofs.Values.{Differs, differs, others_stay, turned_stays}
use Rattle.value_plan.proofs.slots.set.Goals as goal

pub returns-clause-others : goal.returns-clause-others
returns-clause-others g c = λ other turned apart.
    let slot = c.args.slot.now in
    let m = number_of (g.W.EdgeWords.word_of c.put_number.new.words c.args.edge.0) in
    let n = number_of (g.W.EdgeWords.word_of c.args.words.now c.args.edge.0) in
    let d : Differs m n (first_in slot c.args.reverse) slot.bits =
    differs m n c.with_value-changed.result c.number_at-number.result (first_in slot c.args.reverse) c.first_in-at.result slot.bits c.slot.inside.bits
    c.put_number.ensures.number (sym c.number_at-number.ensures) (sym c.first_in-at.ensures.first) (sym (ap (λ (p : Place). p.bits) c.slot.view_is)) c.with_value-changed.ensures.above c.with_value-changed.ensures.below in
    others_stay m n slot other c.args.reverse turned d apart

pub returns-clause-turned : goal.returns-clause-turned
returns-clause-turned g c = λ directed.
    let slot = c.args.slot.now in
    let m = number_of (g.W.EdgeWords.word_of c.put_number.new.words c.args.edge.0) in
    let n = number_of (g.W.EdgeWords.word_of c.args.words.now c.args.edge.0) in
    let d : Differs m n (first_in slot c.args.reverse) slot.bits =
    differs m n c.with_value-changed.result c.number_at-number.result (first_in slot c.args.reverse) c.first_in-at.result slot.bits c.slot.inside.bits
    c.put_number.ensures.number (sym c.number_at-number.ensures) (sym c.first_in-at.ensures.first) (sym (ap (λ (p : Place). p.bits) c.slot.view_is)) c.with_value-changed.ensures.above c.with_value-changed.ensures.below in
    turned_stays m n slot.first slot.bits slot.directed c.args.reverse directed d
