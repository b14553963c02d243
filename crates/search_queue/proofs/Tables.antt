-- The list of the numbers of all nodes.
use Rattle.std.proofs.Common.{◌≡◌, ◌≢◌, ℕ, ◌+◌, ◌*◌, ◌/◌, ◌<◌, length, length-set, replicate, sym, ap, ◌∙◌, inl, inr, arith}
use Rattle.std.specs.Prelude.{slice_index, slice_set}
use Rattle.std.proofs.lemmas.Bool.{cases_eq}
use Rattle.std.proofs.lemmas.Grind.{same_number_lists}
use Rattle.std.proofs.lemmas.List.{get_or-set_same, get_or-set_other, get_or-replicate, length-replicate}
use Rattle.std.proofs.lemmas.List.FromFn.{length-map-range_with_len, get_or-map-range_with_len}
use Rattle.search_queue.specs.declared.pages.Pages.{Pages}
use Rattle.search_queue.specs.Pages.{number_in, numbers_in}

pub length-numbers_in : (pages : Pages) (nodes : ℕ) → length (numbers_in pages nodes) ≡ nodes
length-numbers_in pages nodes = length-map-range_with_len (number_in pages) 0 nodes

pub number-numbers_in : (pages : Pages) (nodes node : ℕ) → node < nodes → slice_index (numbers_in pages nodes) node ≡ number_in pages node
number-numbers_in pages nodes node l = get_or-map-range_with_len (number_in pages) 0 nodes node node 0 l (omega arith)

pub written_numbers : (pages new : Pages) (blocks nodes node number : ℕ) → node < nodes → nodes < 1024 * blocks → number_in new node ≡ number → ((other : ℕ) → other / 1024 < blocks → other ≢ node → number_in new other ≡ number_in pages other) → numbers_in new nodes ≡ slice_set (numbers_in pages nodes) node number
written_numbers pages new blocks nodes node number l room here elsewhere =
    same_number_lists (numbers_in new nodes) (slice_set (numbers_in pages nodes) node number)
    (omega (arith, length-numbers_in new nodes, length-numbers_in pages nodes, length-set (numbers_in pages nodes) node number))
    (λ i b. let k : i < nodes = omega (arith, length-numbers_in new nodes) in elim (cases_eq i node) [
      | inl e ↦
          let at : slice_index (slice_set (numbers_in pages nodes) node number) i ≡ number = ap (slice_index (slice_set (numbers_in pages nodes) node number)) e ∙ get_or-set_same (numbers_in pages nodes) node number 0 (omega (arith, length-numbers_in pages nodes)) in
          number-numbers_in new nodes i k ∙ (ap (number_in new) e ∙ (here ∙ sym at))
      | inr ne ↦ number-numbers_in new nodes i k ∙ (elsewhere i (omega arith) ne ∙ (sym (number-numbers_in pages nodes i k) ∙ sym (get_or-set_other (numbers_in pages nodes) node i number 0 ne)))
    ])

pub zero_numbers : (pages : Pages) (nodes : ℕ) → ((node : ℕ) → node / 1024 < nodes / 1024 + 1 → number_in pages node ≡ 0) → numbers_in pages nodes ≡ replicate nodes 0
zero_numbers pages nodes zero =
    same_number_lists (numbers_in pages nodes) (replicate nodes 0) (omega (arith, length-numbers_in pages nodes, length-replicate {A = ℕ} nodes 0))
    (λ i b. let k : i < nodes = omega (arith, length-numbers_in pages nodes) in number-numbers_in pages nodes i k ∙ (zero i (omega arith) ∙ sym (get_or-replicate nodes i 0 0 k)))
