use Rattle.std.proofs.Common.{◌≡◌, ◌∙◌, length, ap, arith}
use Rattle.traffic_core.specs.Lands.{Land}
use Rattle.script_service.proofs.KnowsMore.{knows_nothing}
use Rattle.script_service.proofs.memory.Memory.new.Goals as goal

pub returns : goal.returns
returns g c = λ journal.
    let profiles : c.profiles-profiles.result.now ≡ g.J.Naming.land.profiles = c.profiles-profiles.ensures ∙ ap (λ (land : Land). land.profiles) c.requires.land in
    knows_nothing g.J.Naming.land journal _ c.in_ok-session.ensures.first c.loop.invariant.none (omega (arith, ap length profiles))
