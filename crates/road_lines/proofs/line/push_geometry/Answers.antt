use Rattle.std.proofs.Common.{◌++◌, ◌∷◌, [], codes}
use Rattle.road_lines.specs.Features.{quoted, member, positions_text, geometry_text}
use Rattle.road_lines.proofs.Pieces.{two_members}
use Rattle.road_lines.proofs.line.push_geometry.Goals as goal

pub returns : goal.returns
unfolding geometry_text
returns c =
    two_members c.args.out.now.items (member (codes "type") (quoted (codes "LineString"))) (quoted (codes "coordinates") ++ 58 ∷ []) (positions_text c.args.shape.now)
    _ _ _ c.in_ok-push_text.ensures c.in_ok-push_positions.ensures c.in_ok-push.ensures.items
