use Rattle.std.proofs.Common.{◌++◌, ◌∷◌, [], codes}
use Rattle.road_lines.specs.Features.{quoted, member, properties_text, geometry_text, feature_text}
use Rattle.road_lines.proofs.Pieces.{three_members}
use Rattle.road_lines.proofs.line.push_feature.Goals as goal

pub returns : goal.returns
unfolding feature_text
returns c =
    three_members c.args.out.now.items (member (codes "type") (quoted (codes "Feature"))) (quoted (codes "properties") ++ 58 ∷ []) (properties_text c.args.properties.now)
    (quoted (codes "geometry") ++ 58 ∷ []) (geometry_text c.args.shape.now)
    _ _ _ _ _ c.in_ok-push_text.ensures c.in_ok-push_properties.ensures c.in_ok-push_text-2.ensures c.in_ok-push_geometry.ensures c.in_ok-push_text-3.ensures
