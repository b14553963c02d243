use Rattle.std.proofs.Common.{◌≡◌, ◌-◌, ℕ, length, subst, arith}
use Rattle.search_queue.specs.Heaps.{rank, IsHoled, MayRise}
use Rattle.search_queue.proofs.Entries.{present_place, lowered_holed, lowered_order}
use Rattle.search_queue.proofs.heap.Heap.lower.Goals as goal

pub overflow_sub-place : goal.overflow_sub-place
overflow_sub-place c =
    let p = present_place c.requires.heap.paired c.args.item.node c.args.item.key c.requires.present in
    omega (arith, p.1, c.get-place.ensures)

pub rise-requires-clause-holed : goal.rise-requires-clause-holed
rise-requires-clause-holed c =
    let h = c.requires.heap in
    let p = present_place h.paired c.args.item.node c.args.item.key c.requires.present in
    let at : p.0 ≡ c.get-place.result - 1 = omega (arith, p.1, c.get-place.ensures) in
    subst (λ (n : ℕ). IsHoled c.args.self.now.items.items c.args.self.now.places n c.args.item.node) at (lowered_holed h.paired c.args.item.node p.0 h.few c.requires.node p.1)

pub rise-requires-clause-order : goal.rise-requires-clause-order
rise-requires-clause-order c =
    let h = c.requires.heap in
    let items = c.args.self.now.items.items in
    let p = present_place h.paired c.args.item.node c.args.item.key c.requires.present in
    let at : p.0 ≡ c.get-place.result - 1 = omega (arith, p.1, c.get-place.ensures) in
    subst (λ (n : ℕ). MayRise (length items) (rank items) n c.args.item.key) at (lowered_order h.paired p.0 c.args.item.key h.ordered p.2 p.3)
