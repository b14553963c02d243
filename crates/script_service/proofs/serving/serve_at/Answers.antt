use Rattle.std.proofs.Common.{◌∙◌, ap}
use Rattle.traffic_core.specs.Lands.{Land}
use Rattle.script_service.specs.Writing.{journal_text}
use Rattle.script_service.proofs.PhaseServed.{all_begun, journal_front, nothing_begun, rose_later, whole_written}
use Rattle.script_service.proofs.serving.serve_at.Goals as goal

pub returns-in_err-service-clause-part : goal.returns-in_err-service-clause-part
returns-in_err-service-clause-part g c = λ fault. nothing_begun g.J.Naming.land c.args.script.now (g.K.Sink.held c.args.out.now)

pub returns-in_err-actors-clause-part : goal.returns-in_err-actors-clause-part
returns-in_err-actors-clause-part g c = λ fault. nothing_begun g.J.Naming.land c.args.script.now (g.K.Sink.held c.args.out.now)

pub returns-in_err-give_all-clause-front : goal.returns-in_err-give_all-clause-front
returns-in_err-give_all-clause-front g c =
    let journal = c.serve_phases.new.service.entries in
    let profiles = c.profiles.ensures ∙ ap (λ (l : Land). l.profiles) c.requires.name in
    let text_is = c.as_bytes.ensures ∙ c.in_ok-journal.ensures ∙ ap (λ p. journal_text c.args.script.now.actors p journal) profiles in
    λ fault. (
      journal_front g.J.Naming.land c.args.script.now journal _ _ _ c.in_ok-serve_phases.ensures.done c.as_bytes.result.now text_is c.in_err-give_all.ensures.err,
      rose_later _ _ _ c.in_ok-serve_phases.ensures.later c.in_err-give_all.ensures.cause.failed,
    )

pub returns-clause-done : goal.returns-clause-done
returns-clause-done g c =
    let journal = c.serve_phases.new.service.entries in
    let profiles = c.profiles.ensures ∙ ap (λ (l : Land). l.profiles) c.requires.name in
    let text_is = c.as_bytes.ensures ∙ c.in_ok-journal.ensures ∙ ap (λ p. journal_text c.args.script.now.actors p journal) profiles in
    whole_written g.J.Naming.land c.args.script.now journal _ _ _ c.in_ok-serve_phases.ensures.done c.as_bytes.result.now text_is c.in_ok-give_all.ensures.ok

pub returns-in_err-journal-clause-part : goal.returns-in_err-journal-clause-part
returns-in_err-journal-clause-part g c = λ fault. all_begun g.J.Naming.land c.args.script.now c.serve_phases.new.service.entries _ _ c.in_ok-serve_phases.ensures.done
