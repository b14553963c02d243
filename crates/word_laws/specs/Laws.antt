-- Laws of command lines, each a statement of its own.
use Rattle.std.specs.Prelude.{◌≡◌, ℕ, List, Some}
use Rattle.gh_words.specs.Words.{asked, asked_by}
use Rattle.gh_words.specs.declared.request.Request.{Request}
use Rattle.word_laws.specs.Writing.{IsAskable, IsLineOf}

-- the words of a request ask for it and for nothing else
abbrev pub LinesAreRead : Type 0
LinesAreRead = (request : Request) (words : List (List ℕ)) → IsAskable request → IsLineOf request words → asked words ≡ Some (asked_by request)
