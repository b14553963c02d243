use Rattle.std.proofs.Common.{sym, ◌∙◌}
use Rattle.tag_rules.proofs.Barring.{is_in-bars, speed-barred, speed-free}
use Rattle.tag_rules.proofs.rules.speed.Goals as goal

pub returns-then-has : goal.returns-then-has
returns-then-has c =
    speed-barred c.args.vehicle c.args.reverse c.args.highway c.args.tags.now
    (sym (is_in-bars c.args.vehicle c.args.reverse c.args.tags.now) ∙ (sym (c.has.ensures _ _ _ c.requires) ∙ c.if-has.true))

pub returns : goal.returns
returns c =
    c.speed_where_free.ensures ∙ speed-free c.args.vehicle c.args.reverse c.args.highway c.args.tags.now
    (sym (is_in-bars c.args.vehicle c.args.reverse c.args.tags.now) ∙ (sym (c.has.ensures _ _ _ c.requires) ∙ c.if-has.false))
