use Rattle.std.proofs.Common.{◌∙◌}
use Rattle.pbf_writer.proofs.Joined.{three_puts, deltas_put}
use Rattle.pbf_writer.proofs.blocks.dense.Goals as goal

pub returns : goal.returns
returns c = three_puts _ _ _ _ _ _ _ c.new-bytes.ensures.items
    (deltas_put _ _ 1 _ _ (c.deref.ensures.value ∙ c.in_ok-ids.ensures) c.in_ok-put_deltas.ensures)
    (deltas_put _ _ 8 _ _ (c.deref-2.ensures.value ∙ c.in_ok-lats.ensures) c.in_ok-put_deltas-2.ensures)
    (deltas_put _ _ 9 _ _ (c.deref-3.ensures.value ∙ c.in_ok-lons.ensures) c.in_ok-put_deltas-3.ensures)
