use Rattle.script_service.proofs.crossing.session_is_sent.Goals as goal

pub returns : goal.returns
returns c = let sent = c.is_sent.ensures in record { owned = sent.owned; leaving = λ k x w. tt }
