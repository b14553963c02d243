use Rattle.std.proofs.Common.{◌≡◌, ◌++◌, map, ap, refl}
use Rattle.plain_map.specs.Printing.{node_text, way_text, lines_text, plain_text}
use Rattle.plain_map.proofs.Sent.{on_err, first_failed, second_failed, last_failed, whole_of}
use Rattle.plain_map.proofs.printing.print_plain.Goals as goal

pub returns-in_err-print_nodes-clause-err : goal.returns-in_err-print_nodes-clause-err
returns-in_err-print_nodes-clause-err g c =
    let all : (c.new-waiting.result.items ++ lines_text (map node_text c.as_slice.result.now)) ++ lines_text (map way_text c.args.map.now.ways) ≡ plain_text c.args.map.now =
    whole_of _ _ _ _ _ c.new-waiting.ensures.items (ap (λ l. lines_text (map node_text l)) c.as_slice.ensures) refl in
    on_err _ (first_failed (g.K.Sink.held c.args.sink.now) (g.K.Sink.held c.print_nodes.new.sink) _ _ _ c.in_err-print_nodes.ensures.err all)

pub returns-in_err-print_ways-clause-err : goal.returns-in_err-print_ways-clause-err
returns-in_err-print_ways-clause-err g c =
    let all : (c.new-waiting.result.items ++ lines_text (map node_text c.as_slice.result.now)) ++ lines_text (map way_text c.as_slice-2.result.now) ≡ plain_text c.args.map.now =
    whole_of _ _ _ _ _ c.new-waiting.ensures.items (ap (λ l. lines_text (map node_text l)) c.as_slice.ensures) (ap (λ l. lines_text (map way_text l)) c.as_slice-2.ensures) in
    on_err _ (second_failed (g.K.Sink.held c.args.sink.now) (g.K.Sink.held c.print_nodes.new.sink) (g.K.Sink.held c.print_ways.new.sink) _ c.print_nodes.new.waiting.items _ _ c.in_ok-print_nodes.ensures.ok c.in_err-print_ways.ensures.err all)

pub returns-in_err-give_all-clause-err : goal.returns-in_err-give_all-clause-err
returns-in_err-give_all-clause-err g c =
    let all : (c.new-waiting.result.items ++ lines_text (map node_text c.as_slice.result.now)) ++ lines_text (map way_text c.as_slice-2.result.now) ≡ plain_text c.args.map.now =
    whole_of _ _ _ _ _ c.new-waiting.ensures.items (ap (λ l. lines_text (map node_text l)) c.as_slice.ensures) (ap (λ l. lines_text (map way_text l)) c.as_slice-2.ensures) in
    on_err _ (last_failed (g.K.Sink.held c.args.sink.now) (g.K.Sink.held c.print_nodes.new.sink) (g.K.Sink.held c.print_ways.new.sink) (g.K.Sink.held c.give_all.new.out) _ c.print_nodes.new.waiting.items _ c.print_ways.new.waiting.items _ c.in_ok-print_nodes.ensures.ok c.in_ok-print_ways.ensures.ok (rw c.deref.ensures.value at c.in_err-give_all.ensures.err) all)
