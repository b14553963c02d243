use Rattle.std.proofs.Common.{◌∙◌, ap, sym, Some}
use Rattle.script_service.proofs.PhaseLines.{line_more}
use Rattle.script_service.proofs.serving.put_part.Goals as goal

pub loop-heard-preserved : goal.loop-heard-preserved
loop-heard-preserved c =
    line_more _ _ _ _ c.heard-item.result c.index-phase-heard.result _ _ _ _
    c.loop-heard-test.true c.heard-item.is c.requires.there c.index-phase-heard.is (c.get-name.ensures ∙ ap Some (sym c.as_str.ensures)) c.loop-heard.invariant c.in_ok-put_reply.ensures.line
