use Rattle.std.proofs.lemmas.Str.{is_utf8-from_IsUtf8}
use Rattle.exact_json.proofs.printer.is_text.Goals as goal

pub returns : goal.returns
returns c = is_utf8-from_IsUtf8 c.args._text.now c.utf8._text
