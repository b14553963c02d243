use Rattle.plain_map.proofs.Joined.{two_pieces, on_ok}
use Rattle.plain_map.proofs.texts.push_place.Goals as goal

pub returns : goal.returns
returns c = on_ok c.push_field-2.result (λ e. two_pieces _ _ _ _ _ c.in_ok-push_field.ensures e) c.push_field-2.ensures
