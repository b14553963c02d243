use Rattle.std.proofs.Common.{◌≡◌, ◌≢◌, ℕ, ◌≤◌, Some, None, length, length-set, sym, ap, subst, ◌∙◌, arith}
use Rattle.std.specs.Prelude.{slice_set}
use Rattle.std.proofs.lemmas.List.{get_or_read}
use Rattle.search_queue.specs.declared.heap.Item.{Item}
use Rattle.search_queue.specs.Keys.{key_at}
use Rattle.search_queue.specs.Heaps.{item_at, node_at, keys_in, keys_of, IsHoled}
use Rattle.search_queue.proofs.Entries.{popped, popped_first, none_inside, first_found, first_least, left_holed, left_keys, emptied_pairs, emptied_keys}
use Rattle.search_queue.proofs.heap.Heap.leave.Goals as goal

pub returns-in_err-last-clause-none : goal.returns-in_err-last-clause-none
returns-in_err-last-clause-none c =
    rw c.from_residual.ensures (none_inside c.requires.heap.paired (omega (arith, c.in_err-last.ensures.cases.0, c.args.self.now.items.ok.0)))

pub returns-then-len-eq0-clause-heap : goal.returns-then-len-eq0-clause-heap
returns-then-len-eq0-clause-heap c =
    let h = c.requires.heap in
    let items = c.args.self.now.items.items in
    let items' = c.pop.new.self.items in
    let places' = c.set.new.self in
    let last = c.in_ok-last.last in
    let p = popped items items' last c.in_ok-last.ensures.items in
    let none : length items' ≡ 0 = omega (arith, c.if-len-eq0.true, c.len.ensures, c.pop.new.self.ok.0) in
    let first : last ≡ item_at items 0 = p.2 ∙ ap (item_at items) none in
    let pe : places' ≡ slice_set c.args.self.now.places (node_at items 0) 0 = c.set.ensures ∙ ap (λ (y : Item). slice_set c.args.self.now.places y.node 0) first in
    record {
      few = omega (arith, h.few, ap length pe, length-set c.args.self.now.places (node_at items 0) 0);
      room = omega (arith, h.room, ap length pe, length-set c.args.self.now.places (node_at items 0) 0, c.in_ok-last.ensures.capacity);
      paired = emptied_pairs h.paired (length items') items' places' h.few p.0 p.1 pe none;
      ordered = λ parent child b i. absurd (omega arith);
    }

pub returns-then-len-eq0-clause-found : goal.returns-then-len-eq0-clause-found
returns-then-len-eq0-clause-found c =
    let items = c.args.self.now.items.items in
    let items' = c.pop.new.self.items in
    let last = c.in_ok-last.last in
    let p = popped items items' last c.in_ok-last.ensures.items in
    let none : length items' ≡ 0 = omega (arith, c.if-len-eq0.true, c.len.ensures, c.pop.new.self.ok.0) in
    let first : last ≡ item_at items 0 = p.2 ∙ ap (item_at items) none in
    subst (λ (y : Item). key_at (keys_of c.args.self.now) y.node ≡ Some y.key) (sym first) (first_found c.requires.heap.paired (omega (arith, p.0)))

pub returns-then-len-eq0-clause-least : goal.returns-then-len-eq0-clause-least
returns-then-len-eq0-clause-least c =
    let h = c.requires.heap in
    let items = c.args.self.now.items.items in
    let items' = c.pop.new.self.items in
    let last = c.in_ok-last.last in
    let p = popped items items' last c.in_ok-last.ensures.items in
    let none : length items' ≡ 0 = omega (arith, c.if-len-eq0.true, c.len.ensures, c.pop.new.self.ok.0) in
    let first : last ≡ item_at items 0 = p.2 ∙ ap (item_at items) none in
    subst (λ (y : Item). (node key : ℕ) → key_at (keys_of c.args.self.now) node ≡ Some key → y.key ≤ key) (sym first) (first_least h.paired h.ordered)

pub returns-then-len-eq0-clause-taken : goal.returns-then-len-eq0-clause-taken
returns-then-len-eq0-clause-taken c =
    let h = c.requires.heap in
    let items = c.args.self.now.items.items in
    let items' = c.pop.new.self.items in
    let places' = c.set.new.self in
    let last = c.in_ok-last.last in
    let p = popped items items' last c.in_ok-last.ensures.items in
    let none : length items' ≡ 0 = omega (arith, c.if-len-eq0.true, c.len.ensures, c.pop.new.self.ok.0) in
    let first : last ≡ item_at items 0 = p.2 ∙ ap (item_at items) none in
    let pe : places' ≡ slice_set c.args.self.now.places (node_at items 0) 0 = c.set.ensures ∙ ap (λ (y : Item). slice_set c.args.self.now.places y.node 0) first in
    emptied_keys h.paired (length items') items' places' h.few p.0 p.1 pe none ∙ ap (λ (y : Item). slice_set (keys_of c.args.self.now) y.node None) (sym first)

pub sink-requires-clause-holed : goal.sink-requires-clause-holed
sink-requires-clause-holed c =
    let h = c.requires.heap in
    let items = c.args.self.now.items.items in
    let items' = c.pop.new.self.items in
    let last = c.in_ok-last.last in
    let p = popped items items' last c.in_ok-last.ensures.items in
    let more : length items' ≢ 0 = λ e. c.if-len-eq0.false (omega (arith, c.len.ensures, c.pop.new.self.ok.0)) in
    let first : c.index-first.result.now ≡ item_at items 0 = get_or_read items' 0 c.index-first.result.now (omega arith) c.index-first.ensures _ ∙ popped_first items items' last c.in_ok-last.ensures.items more in
    let places' = c.set-2.new.self in
    let pe : places' ≡ slice_set c.args.self.now.places (node_at items 0) 0 = c.set-2.ensures ∙ ap (λ (y : Item). slice_set c.args.self.now.places y.node 0) first in
    subst (λ (y : Item). IsHoled items' places' 0 y.node) (sym p.2) (left_holed h.paired (length items') items' places' h.few p.0 p.1 pe more)

pub returns-clause-found : goal.returns-clause-found
returns-clause-found c =
    let h = c.requires.heap in
    let items = c.args.self.now.items.items in
    let items' = c.pop.new.self.items in
    let last = c.in_ok-last.last in
    let p = popped items items' last c.in_ok-last.ensures.items in
    let more : length items' ≢ 0 = λ e. c.if-len-eq0.false (omega (arith, c.len.ensures, c.pop.new.self.ok.0)) in
    let first : c.index-first.result.now ≡ item_at items 0 = get_or_read items' 0 c.index-first.result.now (omega arith) c.index-first.ensures _ ∙ popped_first items items' last c.in_ok-last.ensures.items more in
    subst (λ (y : Item). key_at (keys_of c.args.self.now) y.node ≡ Some y.key) (sym first) (first_found h.paired (omega (arith, p.0)))

pub returns-clause-least : goal.returns-clause-least
returns-clause-least c =
    let h = c.requires.heap in
    let items = c.args.self.now.items.items in
    let items' = c.pop.new.self.items in
    let last = c.in_ok-last.last in
    let p = popped items items' last c.in_ok-last.ensures.items in
    let more : length items' ≢ 0 = λ e. c.if-len-eq0.false (omega (arith, c.len.ensures, c.pop.new.self.ok.0)) in
    let first : c.index-first.result.now ≡ item_at items 0 = get_or_read items' 0 c.index-first.result.now (omega arith) c.index-first.ensures _ ∙ popped_first items items' last c.in_ok-last.ensures.items more in
    subst (λ (y : Item). (node key : ℕ) → key_at (keys_of c.args.self.now) node ≡ Some key → y.key ≤ key) (sym first) (first_least h.paired h.ordered)

pub returns-clause-taken : goal.returns-clause-taken
returns-clause-taken c =
    let h = c.requires.heap in
    let items = c.args.self.now.items.items in
    let items' = c.pop.new.self.items in
    let last = c.in_ok-last.last in
    let p = popped items items' last c.in_ok-last.ensures.items in
    let more : length items' ≢ 0 = λ e. c.if-len-eq0.false (omega (arith, c.len.ensures, c.pop.new.self.ok.0)) in
    let first : c.index-first.result.now ≡ item_at items 0 = get_or_read items' 0 c.index-first.result.now (omega arith) c.index-first.ensures _ ∙ popped_first items items' last c.in_ok-last.ensures.items more in
    let places' = c.set-2.new.self in
    let pe : places' ≡ slice_set c.args.self.now.places (node_at items 0) 0 = c.set-2.ensures ∙ ap (λ (y : Item). slice_set c.args.self.now.places y.node 0) first in
    let put : slice_set (keys_in items' places') last.node (Some last.key) ≡ slice_set (keys_of c.args.self.now) (node_at items 0) None =
    ap (λ (y : Item). slice_set (keys_in items' places') y.node (Some y.key)) p.2 ∙ left_keys h.paired (length items') items' places' h.few p.0 p.1 pe more in
    c.sink.ensures.keys ∙ (put ∙ ap (λ (y : Item). slice_set (keys_of c.args.self.now) y.node None) (sym first))
