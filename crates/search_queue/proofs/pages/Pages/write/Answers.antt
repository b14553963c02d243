use Rattle.std.proofs.Common.{◌≡◌, ◌≢◌, arith, refl}
use Rattle.std.specs.Prelude.{slice_index}
use Rattle.std.proofs.lemmas.List.{get_or_read}
use Rattle.search_queue.proofs.Paging.{written_paged}
use Rattle.search_queue.proofs.pages.Pages.write.Goals as goal

pub returns-clause-paged : goal.returns-clause-paged
returns-clause-paged c =
    let starts = c.touch.new.self.starts.items in
    let block = c.block-block.result in
    let read : c.index.result.now ≡ slice_index starts block = get_or_read starts block c.index.result.now (omega (arith, c.requires.node, c.block-block.ensures, c.touch.ensures.blocks)) c.index.ensures 0 in
    let some : slice_index starts block ≢ 0 = c.touch.ensures.touched in
    written_paged c.touch.new.self _ c.place.result c.args.number c.touch.ensures.paged (omega (arith, c.place.ensures)) refl refl refl refl
