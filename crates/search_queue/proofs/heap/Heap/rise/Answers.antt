use Rattle.std.proofs.Common.{◌≡◌, ◌<◌, ◌-◌, ◌/◌, length, ap, refl, ◌∙◌, arith}
use Rattle.std.proofs.lemmas.List.{get_or_read}
use Rattle.search_queue.specs.declared.heap.Item.{Item}
use Rattle.search_queue.specs.Heaps.{item_at, rank, IsBelow}
use Rattle.search_queue.proofs.Holes.{long_places, step_holed, step_keys, filled_pairs, filled_keys, rise_ends, rise_steps}
use Rattle.search_queue.proofs.heap.Heap.rise.Goals as goal

pub returns-then-above-item-clause-heap : goal.returns-then-above-item-clause-heap
returns-then-above-item-clause-heap c =
    let i = c.loop-at.invariant in
    let h = i.holed in
    let p = c.put.ensures in
    let items = c.loop-at.self.items.items in
    let parent = (c.loop-at.at - 1) / 4 in
    let read : c.index-above.result.now ≡ item_at items parent = get_or_read items parent c.index-above.result.now (omega (arith, h.inside)) c.index-above.ensures _ in
    let key : c.index-above.result.now.key ≡ rank items parent = ap (λ (y : Item). y.key) read in
    record {
      few = omega (arith, h.few, long_places h c.args.item p.items p.places);
      room = omega (arith, i.room, long_places h c.args.item p.items p.places, p.capacity);
      paired = filled_pairs h c.args.item p.items p.places refl;
      ordered = rise_ends h c.args.item p.items p.places i.order (λ q b.
          let same : q ≡ parent = omega (arith, b.first, b.last) in
          let r : rank items q ≡ rank items parent = ap (rank items) same in
          omega (arith, c.if-above-item.true));
    }

pub returns-then-above-item-clause-keys : goal.returns-then-above-item-clause-keys
returns-then-above-item-clause-keys c =
    let p = c.put.ensures in
    filled_keys c.loop-at.invariant.holed c.args.item p.items p.places refl ∙ c.loop-at.invariant.keys

pub loop-at-preserved : goal.loop-at-preserved
loop-at-preserved c =
    let i = c.loop-at.invariant in
    let h = i.holed in
    let p = c.put-in-loop-at.ensures in
    let above = c.index-above.result.now in
    let items = c.loop-at.self.items.items in
    let parent = (c.loop-at.at - 1) / 4 in
    let inside : parent < length items = omega (arith, h.inside) in
    let read : above ≡ item_at items parent = get_or_read items parent above inside c.index-above.ensures _ in
    let below : IsBelow parent c.loop-at.at = record { first = omega (arith, c.loop-at-test.true); last = omega (arith, c.loop-at-test.true) } in
    record {
      holed = step_holed h above p.items p.places parent inside (omega (arith, c.loop-at-test.true)) read;
      room = omega (arith, i.room, long_places h above p.items p.places, p.capacity);
      order = rise_steps h above p.items p.places parent c.args.item.key i.order below read c.if-above-item.false;
      keys = step_keys h above p.items p.places parent c.args.item.key inside (omega (arith, c.loop-at-test.true)) read ∙ i.keys;
    }

pub returns-clause-heap : goal.returns-clause-heap
returns-clause-heap c =
    let i = c.loop-at.invariant in
    let h = i.holed in
    let p = c.put-2.ensures in
    record {
      few = omega (arith, h.few, long_places h c.args.item p.items p.places);
      room = omega (arith, i.room, long_places h c.args.item p.items p.places, p.capacity);
      paired = filled_pairs h c.args.item p.items p.places refl;
      ordered = rise_ends h c.args.item p.items p.places i.order (λ q b. absurd (omega (arith, b.first, c.loop-at-test.false)));
    }

pub returns-clause-keys : goal.returns-clause-keys
returns-clause-keys c =
    let p = c.put-2.ensures in
    filled_keys c.loop-at.invariant.holed c.args.item p.items p.places refl ∙ c.loop-at.invariant.keys
