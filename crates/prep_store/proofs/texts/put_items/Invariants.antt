use Rattle.std.proofs.Common.{◌≡◌, ◌++◌, drop}
use Rattle.prep_store.specs.Stores.{items_text}
use Rattle.prep_store.proofs.texts.put_items.Given as goal

-- what is left to append
abbrev pub invariant-loop-item : goal.invariant-loop-item
invariant-loop-item l = l.out.items ++ items_text (drop l.item-index l.items) ≡ l.fn.out.items ++ items_text l.items
