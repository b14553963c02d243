use Rattle.std.proofs.Common.{◌%◌, append-nil, arith}
use Rattle.plain_map.proofs.Digits.{dotted_none, dotted_some}
use Rattle.plain_map.proofs.Joined.{three_pieces}
use Rattle.plain_map.proofs.texts.push_degrees.Goals as goal

pub returns-in_ok-push_places : goal.returns-in_ok-push_places
returns-in_ok-push_places c = rw (dotted_some (c.args.n % 10000000) (omega arith)) (three_pieces _ _ _ _ _ _ _ c.in_ok-push_natural.ensures c.in_ok-push.ensures.items c.in_ok-push_places.ensures)

pub returns-else-part-gt0 : goal.returns-else-part-gt0
returns-else-part-gt0 c = rw (dotted_none (c.args.n % 10000000) (omega arith), append-nil) c.in_ok-push_natural.ensures
