use Rattle.std.proofs.Common.{codes, decimal}
use Rattle.std.specs.Fmt.{signed_decimal}
use Rattle.road_lines.specs.Features.{member, properties_text}
use Rattle.road_lines.proofs.Pieces.{seven_members}
use Rattle.road_lines.proofs.line.push_properties.Goals as goal

pub returns : goal.returns
unfolding properties_text
returns c =
    let p = c.args.p.now in
    seven_members c.args.out.now.items (member (codes "edge") (decimal p.edge)) (member (codes "way") (signed_decimal p.way)) (member (codes "base") (signed_decimal p.base))
    (member (codes "adjacent") (signed_decimal p.adjacent)) (member (codes "mm") (decimal p.mm)) (member (codes "forward") (decimal p.forward)) (member (codes "reverse") (decimal p.reverse))
    _ _ _ _ _ _ _ _ c.in_ok-push_count.ensures c.in_ok-push_osm_id.ensures c.in_ok-push_osm_id-2.ensures c.in_ok-push_osm_id-3.ensures
    c.in_ok-push_count-2.ensures c.in_ok-push_count-3.ensures c.in_ok-push_count-4.ensures c.in_ok-push.ensures.items
