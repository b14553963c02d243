-- Which text answers a script: a line for each reply, and behind them the journal.
use Rattle.std.specs.Prelude.{◌≡◌, ◌≤◌, ◌⊎◌, ℕ, ◌+◌, List, [], ◌∷◌, ◌++◌, length, codes, decimal, slice_index_or}
use Rattle.std.specs.List.{flat_map}
use Rattle.weighting.specs.declared.profile.Profile.{Profile}
use Rattle.traffic_core.specs.declared.entry.Entry.{Entry}
use Rattle.traffic_core.specs.declared.entry.What.{What}
use Rattle.traffic_core.specs.declared.entry.What.TheVariants as what
use Rattle.traffic_core.specs.Lands.{Land}
use Rattle.script_text.specs.declared.noted.Noted.{Noted}
use Rattle.script_text.specs.declared.noted.Noted.TheVariants as noted
use Rattle.script_text.specs.declared.script.Script.{Script}
use Rattle.script_text.specs.Replies.{reply_line}
use Rattle.script_text.specs.Entries.{entry_line}
use Rattle.script_service.specs.Answering.{Answered, joined}
use Rattle.script_service.specs.Fitting.{Begins}

-- the line of a reply, with the actor's name
abbrev pub line_text : List (List ℕ) → Answered → List ℕ
line_text names a = reply_line (slice_index_or names a.line.actor []) a.line.number a.at a.reply

abbrev pub lines_text : List (List ℕ) → List Answered → List ℕ
lines_text names answered = flat_map (line_text names) answered

-- what the journal notes of a change
abbrev pub noted_of : What → Noted
noted_of (what.Lower edge speed) = noted.Lower edge speed
noted_of (what.Restore edge speed) = noted.Restore edge speed
noted_of (what.Publish prep) = noted.Publish prep.profile

abbrev pub entry_text : List (List ℕ) → List Profile → ℕ → Entry → List ℕ
entry_text names profiles place entry = entry_line profiles place (slice_index_or names entry.actor []) entry.number (noted_of entry.what)

-- the entries behind as many others
abbrev pub entries_text : List (List ℕ) → List Profile → ℕ → List Entry → List ℕ
entries_text names profiles before [] = []
entries_text names profiles before (entry ∷ entries) = entry_text names profiles (before + 1) entry ++ entries_text names profiles (before + 1) entries

-- how many entries there are, and each of them
abbrev pub journal_text : List (List ℕ) → List Profile → List Entry → List ℕ
journal_text names profiles journal = codes "journal " ++ (decimal (length journal) ++ (10 ∷ entries_text names profiles 0 journal))

-- a text that answers the first phases of a script
pub record BeginsText (land : Land) (script : Script) (text : List ℕ) : Type 0 where
  pub phases : List (List Answered)
  pub journal : List Entry
  pub count : ℕ
  pub within : count ≤ length script.phases
  pub begins : Begins land script phases journal count
  pub text_is : text ≡ lines_text script.actors (joined phases)

-- a text that answers a script: all its phases, and the journal
pub record Fits (land : Land) (script : Script) (text : List ℕ) : Type 0 where
  pub phases : List (List Answered)
  pub journal : List Entry
  pub begins : Begins land script phases journal (length script.phases)
  pub text_is : text ≡ lines_text script.actors (joined phases) ++ journal_text script.actors land.profiles journal

-- one or the other
abbrev pub BeginsOrFits : Land → Script → List ℕ → Type 0
BeginsOrFits land script text = BeginsText land script text ⊎ Fits land script text
