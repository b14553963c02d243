use Rattle.std.proofs.Common.{◌≡◌, ap, refl, ◌∙◌, arith}
use Rattle.std.proofs.lemmas.List.{get_or_read}
use Rattle.search_queue.specs.declared.heap.Item.{Item}
use Rattle.search_queue.specs.Heaps.{item_at, rank}
use Rattle.search_queue.proofs.Holes.{long_places, step_holed, step_keys, filled_pairs, filled_keys, sink_ends, sink_steps}
use Rattle.search_queue.proofs.heap.Heap.sink.Goals as goal

pub returns-then-item-below-clause-heap : goal.returns-then-item-below-clause-heap
returns-then-item-below-clause-heap c =
    let i = c.loop-child.invariant in
    let h = i.holed in
    let p = c.put.ensures in
    let child = c.in-Some.child in
    let e = c.in-Some.ensures in
    let items = c.loop-child.self.items.items in
    let read : c.index-below.result.now ≡ item_at items child = get_or_read items child c.index-below.result.now e.within c.index-below.ensures _ in
    let key : c.index-below.result.now.key ≡ rank items child = ap (λ (y : Item). y.key) read in
    record {
      few = omega (arith, h.few, long_places h c.args.item p.items p.places);
      room = omega (arith, i.room, long_places h c.args.item p.items p.places, p.capacity);
      paired = filled_pairs h c.args.item p.items p.places refl;
      ordered = sink_ends h c.args.item p.items p.places i.order (λ q b l. omega (arith, c.if-item-below.true, e.least q b l));
    }

pub returns-then-item-below-clause-keys : goal.returns-then-item-below-clause-keys
returns-then-item-below-clause-keys c =
    let p = c.put.ensures in
    filled_keys c.loop-child.invariant.holed c.args.item p.items p.places refl ∙ c.loop-child.invariant.keys

pub loop-child-preserved : goal.loop-child-preserved
loop-child-preserved c =
    let i = c.loop-child.invariant in
    let h = i.holed in
    let p = c.put-in-Some.ensures in
    let child = c.in-Some.child in
    let e = c.in-Some.ensures in
    let below = c.index-below.result.now in
    let items = c.loop-child.self.items.items in
    let read : below ≡ item_at items child = get_or_read items child below e.within c.index-below.ensures _ in
    record {
      holed = step_holed h below p.items p.places child e.within (omega (arith, e.below.first)) read;
      room = omega (arith, i.room, long_places h below p.items p.places, p.capacity);
      order = sink_steps h below p.items p.places child c.args.item.key i.order e.below e.within e.least read c.if-item-below.false;
      keys = step_keys h below p.items p.places child c.args.item.key e.within (omega (arith, e.below.first)) read ∙ i.keys;
    }

pub returns-clause-heap : goal.returns-clause-heap
returns-clause-heap c =
    let i = c.loop-child.invariant in
    let h = i.holed in
    let p = c.put-2.ensures in
    record {
      few = omega (arith, h.few, long_places h c.args.item p.items p.places);
      room = omega (arith, i.room, long_places h c.args.item p.items p.places, p.capacity);
      paired = filled_pairs h c.args.item p.items p.places refl;
      ordered = sink_ends h c.args.item p.items p.places i.order (λ q b l. absurd (omega (arith, b.first, c.in_default.ensures.none)));
    }

pub returns-clause-keys : goal.returns-clause-keys
returns-clause-keys c =
    let p = c.put-2.ensures in
    filled_keys c.loop-child.invariant.holed c.args.item p.items p.places refl ∙ c.loop-child.invariant.keys
