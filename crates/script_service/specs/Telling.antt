-- What an actor was told of a line.
use Rattle.script_text.specs.declared.script.Line.{Line}
use Rattle.script_service.specs.declared.told.Told.{Told}
use Rattle.script_service.specs.Answering.{Answered}

-- a line with what it was told
abbrev pub answered : Line → Told → Answered
answered line told = record { line = line; at = told.at; reply = told.reply }
