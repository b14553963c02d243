use Rattle.std.proofs.Common.{◌++◌, replicate, refl, ap, ◌∙◌, arith, rules}
use Rattle.search_queue.proofs.Paging.{begun}
use Rattle.search_queue.proofs.pages.Pages.new.Goals as goal

pub returns-clause-paged : goal.returns-clause-paged
returns-clause-paged c =
    (begun (record { starts = c.in_ok-starts.starts; words = c.add_page.new.words; count = 0 }) c.args.blocks c.requires (c.in_ok-starts.ensures.items_if_clones_equal (λ x. search rules)) (c.add_page.ensures.items ∙ ap (λ xs. xs ++ replicate 1024 0) c.in_ok-words.ensures.items) refl (omega (arith, c.in_ok-words.ensures.exact, c.add_page.ensures.capacity))).0

pub returns-clause-zero : goal.returns-clause-zero
returns-clause-zero c =
    (begun (record { starts = c.in_ok-starts.starts; words = c.add_page.new.words; count = 0 }) c.args.blocks c.requires (c.in_ok-starts.ensures.items_if_clones_equal (λ x. search rules)) (c.add_page.ensures.items ∙ ap (λ xs. xs ++ replicate 1024 0) c.in_ok-words.ensures.items) refl (omega (arith, c.in_ok-words.ensures.exact, c.add_page.ensures.capacity))).1
