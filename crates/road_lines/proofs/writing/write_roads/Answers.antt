use Rattle.std.proofs.Common.{◌≡◌, ◌++◌, ap}
use Rattle.plain_map.proofs.Sent.{on_err}
use Rattle.road_lines.specs.Lines.{lines_of}
use Rattle.road_lines.proofs.Numbered.{rest_failed}
use Rattle.road_lines.proofs.writing.write_roads.Goals as goal

pub returns-in_err-give_all-clause-err : goal.returns-in_err-give_all-clause-err
returns-in_err-give_all-clause-err g c =
    let lines = lines_of c.args.roads.now c.args.ways.now in
    let all : c.new-waiting.result.items ++ lines ≡ lines = ap (λ l. l ++ lines) c.new-waiting.ensures.items in
    on_err _ (rest_failed (g.K.Sink.held c.args.sink.now) (g.K.Sink.held c.write_edges.new.sink) (g.K.Sink.held c.give_all.new.out) _ c.write_edges.new.waiting.items _ c.in_ok-write_edges.ensures.ok all (rw c.deref.ensures.value at c.in_err-give_all.ensures.err))
