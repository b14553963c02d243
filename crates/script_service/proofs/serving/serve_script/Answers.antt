use Rattle.script_service.proofs.serving.serve_script.Goals as goal

pub returns-clause-front : goal.returns-clause-front
returns-clause-front g c = λ fault. (c.serve_over.ensures.front fault).0

pub returns-clause-cause : goal.returns-clause-cause
returns-clause-cause g c = λ fault. (c.serve_over.ensures.front fault).1
