use Rattle.std.proofs.Common.{ap, ◌∙◌}
use Rattle.search_queue.specs.Heaps.{keys_in}
use Rattle.search_queue.proofs.Entries.{empty_keys}
use Rattle.search_queue.proofs.heap.Heap.new.Goals as goal

pub returns-clause-empty : goal.returns-clause-empty
returns-clause-empty c = ap (keys_in _) c.in_ok-new.ensures ∙ empty_keys _ c.args.nodes
