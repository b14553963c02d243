use Rattle.std.proofs.Common.{◌≡◌, ◌+◌, sym, ◌∙◌, arith, refl}
use Rattle.std.specs.Prelude.{slice_index}
use Rattle.std.specs.Vec.{with_item}
use Rattle.std.proofs.lemmas.List.{get_or_read}
use Rattle.search_queue.proofs.Paging.{more_room, grown_paged, grown_same}
use Rattle.search_queue.proofs.pages.Pages.touch.Goals as goal

pub add_page-requires : goal.add_page-requires
add_page-requires c =
    let h = c.requires.paged in
    let none : slice_index c.args.self.now.starts.items c.args.block ≡ 0 = sym (get_or_read c.args.self.now.starts.items c.args.block c.index.result.now c.requires.block c.index.ensures 0) ∙ c.if-index-ne0.false in
    omega (arith, more_room c.args.self.now c.args.block h c.requires.block none, h.long, h.room, c.args.self.now.words.ok.0)

pub overflow_add-self : goal.overflow_add-self
overflow_add-self c =
    let h = c.requires.paged in
    let none : slice_index c.args.self.now.starts.items c.args.block ≡ 0 = sym (get_or_read c.args.self.now.starts.items c.args.block c.index.result.now c.requires.block c.index.ensures 0) ∙ c.if-index-ne0.false in
    omega (arith, more_room c.args.self.now c.args.block h c.requires.block none, h.few)

pub returns-clause-paged : goal.returns-clause-paged
returns-clause-paged c =
    let none : slice_index c.args.self.now.starts.items c.args.block ≡ 0 = sym (get_or_read c.args.self.now.starts.items c.args.block c.index.result.now c.requires.block c.index.ensures 0) ∙ c.if-index-ne0.false in
    grown_paged c.args.self.now _ c.args.block c.requires.paged c.requires.block none c.add_page.ensures.items refl refl c.add_page.ensures.capacity

pub returns-clause-same : goal.returns-clause-same
returns-clause-same c =
    let none : slice_index c.args.self.now.starts.items c.args.block ≡ 0 = sym (get_or_read c.args.self.now.starts.items c.args.block c.index.result.now c.requires.block c.index.ensures 0) ∙ c.if-index-ne0.false in
    grown_same c.args.self.now (record { starts = with_item c.args.self.now.starts c.args.block (c.args.self.now.count + 1); words = c.add_page.new.words; count = c.args.self.now.count + 1 }) c.args.block c.requires.paged c.requires.block none c.add_page.ensures.items refl refl c.add_page.ensures.capacity
