use Rattle.std.proofs.Common.{arith}
use Rattle.plain_map.proofs.Digits.{hex_two}
use Rattle.plain_map.proofs.Joined.{two_pieces}
use Rattle.plain_map.proofs.texts.push_hex.Goals as goal

pub returns-in_ok-push-3 : goal.returns-in_ok-push-3
returns-in_ok-push-3 c = rw (hex_two c.args.b c.if-b-lt16.false (omega arith), ← c.hex_digit-else-b-lt16.ensures, ← c.hex_digit-else-b-lt16-2.ensures) (two_pieces _ _ _ _ _ c.in_ok-push-2.ensures.items c.in_ok-push-3.ensures.items)
