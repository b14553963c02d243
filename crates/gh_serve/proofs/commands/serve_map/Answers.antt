use Rattle.gh_serve.proofs.commands.serve_map.Goals as goal
use Rattle.gh_serve.proofs.Asked.{labels_say}

pub returns-clause-labels : goal.returns-clause-labels
returns-clause-labels g c =
    labels_say c.serve.result c.args.form _ _ c.in-Ok.roads c.in-Ok-read_whole_script.read c.in-Ok.ensures.map c.in-Ok-read_whole_script.ensures.read c.serve.ensures.labels
