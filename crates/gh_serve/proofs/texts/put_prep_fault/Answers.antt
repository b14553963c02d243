use Rattle.std.proofs.Common.{codes}
use Rattle.gh_serve.specs.Texts.{prep_word}
use Rattle.gh_serve.proofs.Pushed.{pushed}
use Rattle.gh_serve.proofs.texts.put_prep_fault.Goals as goal

pub returns : goal.returns
returns c =
    pushed c.push-2.result c.args.text.now c.push.new.self c.push-2.new.self (codes "preparation: ") c.prep_word_of.result.now (prep_word c.args.fault.now)
    c.push-2.ensures.ok c.in_ok-push.ensures.ok c.prep_word_of.ensures
