use Rattle.std.proofs.Common.{◌≡◌, ◌<◌, List, ℕ, length, sym, subst, All}
use Rattle.std.specs.Prelude.{IfOk}
use Rattle.script_text.specs.declared.script.Line.{Line}
use Rattle.script_service.specs.declared.actor.Heard.{Heard}
use Rattle.script_service.specs.Actors.{Acting, parts_in}
use Rattle.script_service.specs.Writing.{lines_text}
use Rattle.script_service.proofs.LineNumbers.{named_here}
use Rattle.script_service.proofs.PhaseReady.{asked_now, phase_is}
use Rattle.script_service.proofs.serving.phase_text.Goals as goal
use Rattle.std.proofs.Common.{refl}

pub parts_text-requires-clause-there : goal.parts_text-requires-clause-there
parts_text-requires-clause-there g c κs within =
    let here = phase_is c.args.script.now.phases c.args.place _ c.as_slice-phase.result.now c.get.ensures c.as_slice-phase.ensures in
    subst (λ (p : List Line). All (λ (a : Acting). All (λ (h : Heard). h.place < length p) a.part) c.args.actors.now) here c.requires.heard

pub parts_text-requires-clause-named : goal.parts_text-requires-clause-named
parts_text-requires-clause-named g c κs within =
    let script = c.args.script.now in
    let here = phase_is script.phases c.args.place _ c.as_slice-phase.result.now c.get.ensures c.as_slice-phase.ensures in
    let asked = asked_now _ script c.args.place (length script.actors) c.as_slice-phase.result.now c.requires.script c.requires.there here refl in
    named_here _ (length script.actors) c.as_slice-phase.result.now asked.each

pub returns : goal.returns
returns g c =
    let here = phase_is c.args.script.now.phases c.args.place _ c.as_slice-phase.result.now c.get.ensures c.as_slice-phase.ensures in
    subst (λ (p : List Line). IfOk c.parts_text.result (λ (t : List ℕ). t ≡ lines_text c.args.script.now.actors (parts_in p c.args.actors.now))) (sym here) c.parts_text.ensures
