-- Laws of scripts that are answered, each a statement of its own.
use Rattle.std.specs.Prelude.{◌≡◌, ℕ, List}
use Rattle.traffic_core.specs.declared.entry.Entry.{Entry}
use Rattle.traffic_core.specs.Lands.{Land}
use Rattle.script_text.specs.declared.script.Script.{Script}
use Rattle.script_service.specs.Answering.{Answered}
use Rattle.script_service.specs.Fitting.{Begins}
use Rattle.script_service.specs.Writing.{Fits}

-- replies have one journal
abbrev pub OneJournal : Type 0
OneJournal = (land : Land) (script : Script) (phases : List (List Answered)) (one other : List Entry) (count : ℕ) →
    Begins land script phases one count → Begins land script phases other count → one ≡ other

-- so they tell the whole text
abbrev pub OneText : Type 0
OneText = (land : Land) (script : Script) (text other : List ℕ) (fits : Fits land script text) (also : Fits land script other) →
    fits.phases ≡ also.phases → text ≡ other
