use Rattle.std.proofs.Common.{◌≡◌, ◌-◌, ◌<◌, ◌+◌, Some, length, sym, ap, ◌∙◌, arith}
use Rattle.std.proofs.lemmas.List.{get_or_read}
use Rattle.search_queue.specs.declared.heap.Item.{Item}
use Rattle.search_queue.specs.Heaps.{item_at, place_of}
use Rattle.search_queue.proofs.Holes.{key-keys_in, key_in_place, key_in_none}
use Rattle.search_queue.proofs.heap.Heap.key.Goals as goal

pub returns-then-place-eq0 : goal.returns-then-place-eq0
returns-then-place-eq0 c =
    let heap = c.args.self.now in
    sym (key-keys_in heap.items.items heap.places c.args.node ∙ key_in_none heap.items.items (place_of heap.places c.args.node) (sym c.get-place.ensures ∙ c.if-place-eq0.true))

pub index-requires : goal.index-requires
index-requires c =
    let heap = c.args.self.now in
    let at : place_of heap.places c.args.node ≡ (c.get-place.result - 1) + 1 = omega (arith, c.get-place.ensures, c.if-place-eq0.false) in
    omega (arith, (c.requires.heap.paired.backward c.args.node (c.get-place.result - 1) at).0, heap.items.ok.0)

pub returns : goal.returns
returns c =
    let heap = c.args.self.now in
    let items = heap.items.items in
    let at : place_of heap.places c.args.node ≡ (c.get-place.result - 1) + 1 = omega (arith, c.get-place.ensures, c.if-place-eq0.false) in
    let inside : c.get-place.result - 1 < length items = (c.requires.heap.paired.backward c.args.node (c.get-place.result - 1) at).0 in
    let read : c.index.result.now ≡ item_at items (c.get-place.result - 1) = get_or_read items (c.get-place.result - 1) c.index.result.now inside c.index.ensures _ in
    ap (λ (y : Item). Some y.key) read ∙ sym (key-keys_in items heap.places c.args.node ∙ key_in_place items (place_of heap.places c.args.node) (c.get-place.result - 1) at)
