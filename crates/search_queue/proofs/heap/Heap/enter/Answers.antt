use Rattle.std.proofs.Common.{◌≡◌, ℕ, Some, List, [], ◌∷◌, ◌++◌, length, sym, ap, subst, ◌∙◌, arith}
use Rattle.std.specs.Prelude.{slice_set}
use Rattle.search_queue.specs.declared.heap.Item.{Item}
use Rattle.search_queue.specs.Heaps.{keys_in, IsHoled}
use Rattle.search_queue.proofs.Entries.{room_for, entered_holed, entered_keys}
use Rattle.search_queue.proofs.heap.Heap.enter.Goals as goal

pub push_reserved-requires : goal.push_reserved-requires
push_reserved-requires c =
    omega (arith, room_for c.requires.heap.paired c.args.item.node c.requires.node c.requires.absent, c.requires.heap.room, c.args.self.now.items.ok.0)

pub rise-requires-clause-holed : goal.rise-requires-clause-holed
rise-requires-clause-holed c =
    let h = c.requires.heap in
    let last : length c.args.self.now.items.items ≡ c.len-last.result = omega (arith, c.len-last.ensures, c.args.self.now.items.ok.0) in
    subst (λ (xs : List Item). IsHoled xs c.args.self.now.places c.len-last.result c.args.item.node) (sym c.push_reserved.ensures.items)
    (subst (λ (n : ℕ). IsHoled (c.args.self.now.items.items ++ c.args.item ∷ []) c.args.self.now.places n c.args.item.node) last (entered_holed h.paired c.args.item h.few c.requires.node c.requires.absent))

pub returns-clause-keys : goal.returns-clause-keys
returns-clause-keys c =
    let places = c.args.self.now.places in
    c.rise.ensures.keys ∙ ap (λ ks. slice_set ks c.args.item.node (Some c.args.item.key)) (ap (λ (xs : List Item). keys_in xs places) c.push_reserved.ensures.items ∙ entered_keys c.requires.heap.paired c.args.item)
