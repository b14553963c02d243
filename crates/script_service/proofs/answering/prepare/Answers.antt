use Rattle.std.proofs.Common.{◌≡◌, ◌<◌, ◌∙◌, length, ap, arith}
use Rattle.landmark_prep.specs.Preparations.{Preparation}
use Rattle.script_service.proofs.CommandFollows.{prepared_follows, no_landmark_follows}
use Rattle.script_service.proofs.answering.prepare.Goals as goal

pub returns-in-Some : goal.returns-in-Some
returns-in-Some g c =
    let made = rw c.in-Some.is at c.in_ok-prep.ensures in
    let command = rw c.requires.is at c.requires.command in
    let there : c.args.profile < length g.J.Naming.land.profiles = command.0 in
    let each : length c.args.memory.now.held ≡ length g.J.Naming.land.profiles = c.hold.ensures.each in
    let counted : c.landmark_count-landmarks.result ≡ length c.in-Some.prep.landmarks =
    c.landmark_count-landmarks.ensures ∙ ap (λ (p : Preparation). length p.landmarks) (c.prep.ensures ∙ c.shared.ensures.same) in
    prepared_follows g.J.Naming.land _ _ c.args.memory.now _ c.args.line.now c.args.profile c.args.count c.in-Some.prep _ _
    c.requires.is (omega arith) made counted c.hold.ensures.holds c.len-at.ensures

pub returns-in-None : goal.returns-in-None
returns-in-None g c =
    let none = rw c.in-None.is at c.in_ok-prep.ensures in
    no_landmark_follows g.J.Naming.land _ _ c.args.memory.now c.args.line.now c.args.profile c.args.count _
    c.requires.is none c.len-at.ensures
