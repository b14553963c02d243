use Rattle.plain_map.specs.Printing.{coordinate_text}
use Rattle.road_lines.proofs.Pieces.{array_pieces}
use Rattle.road_lines.proofs.line.push_position.Goals as goal

pub returns : goal.returns
returns c = array_pieces c.args.out.now.items c.args.before.now (coordinate_text c.args.point.now.lon) (coordinate_text c.args.point.now.lat) _ _ _ _ c.in_ok-push_text.ensures c.in_ok-push_degrees.ensures c.in_ok-push_degrees-2.ensures c.in_ok-push.ensures.items
