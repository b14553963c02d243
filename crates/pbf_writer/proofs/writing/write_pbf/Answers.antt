use Rattle.std.proofs.Common.{◌∙◌, codes, map}
use Rattle.std.proofs.KnownBytes.{Appends-trans}
use Rattle.std.proofs.lemmas.Result.{on_ok_weaker, on_err_weaker}
use Rattle.pbf_wire.specs.Writing.{entry_text, features_text, blocks_text, nodes_block, nodes_parts, pbf_text}
use Rattle.pbf_writer.proofs.Sent.{on_err, front_wide, front_behind}
use Rattle.pbf_writer.proofs.writing.write_pbf.Goals as goal

pub returns-in_err-send-clause-err : goal.returns-in_err-send-clause-err
unfolding pbf_text
returns-in_err-send-clause-err g c = on_err _ (front_wide (g.K.Sink.held c.args.sink.now) (g.K.Sink.held c.send.new.sink) (entry_text (codes "OSMHeader") features_text) _ (rw (c.deref.ensures.value ∙ c.in_ok-features.ensures) at c.in_err-send.ensures.err))

pub returns-in_err-write_nodes-clause-err : goal.returns-in_err-write_nodes-clause-err
unfolding pbf_text
returns-in_err-write_nodes-clause-err g c =
    let header = rw (c.deref.ensures.value ∙ c.in_ok-features.ensures) at c.in_ok-send.ensures.ok in
    let nodes = rw c.as_slice.ensures at c.in_err-write_nodes.ensures.err in
    on_err _ (front_behind (g.K.Sink.held c.args.sink.now) (g.K.Sink.held c.send.new.sink) (g.K.Sink.held c.write_nodes.new.sink) (entry_text (codes "OSMHeader") features_text) _ header (front_wide (g.K.Sink.held c.send.new.sink) (g.K.Sink.held c.write_nodes.new.sink) (blocks_text (map nodes_block (nodes_parts c.args.map.now.nodes))) _ nodes))

pub returns-clause-ok : goal.returns-clause-ok
unfolding pbf_text
returns-clause-ok g c =
    let header = rw (c.deref.ensures.value ∙ c.in_ok-features.ensures) at c.in_ok-send.ensures.ok in
    let nodes = rw c.as_slice.ensures at c.in_ok-write_nodes.ensures.ok in
    let ways = rw c.as_slice-2.ensures at c.write_ways.ensures.ok in
    on_ok_weaker c.write_ways.result (λ given. Appends-trans (g.K.Sink.held c.args.sink.now) (g.K.Sink.held c.send.new.sink) (g.K.Sink.held c.write_ways.new.sink) (entry_text (codes "OSMHeader") features_text) _ header (Appends-trans (g.K.Sink.held c.send.new.sink) (g.K.Sink.held c.write_nodes.new.sink) (g.K.Sink.held c.write_ways.new.sink) _ _ nodes given)) ways

pub returns-clause-err : goal.returns-clause-err
unfolding pbf_text
returns-clause-err g c =
    let header = rw (c.deref.ensures.value ∙ c.in_ok-features.ensures) at c.in_ok-send.ensures.ok in
    let nodes = rw c.as_slice.ensures at c.in_ok-write_nodes.ensures.ok in
    let ways = rw c.as_slice-2.ensures at c.write_ways.ensures.err in
    on_err_weaker c.write_ways.result (λ given. front_behind (g.K.Sink.held c.args.sink.now) (g.K.Sink.held c.send.new.sink) (g.K.Sink.held c.write_ways.new.sink) (entry_text (codes "OSMHeader") features_text) _ header (front_behind (g.K.Sink.held c.send.new.sink) (g.K.Sink.held c.write_nodes.new.sink) (g.K.Sink.held c.write_ways.new.sink) _ _ nodes given)) ways
